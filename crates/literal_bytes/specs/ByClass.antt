-- What a value is that begins with a word letter, and with a bracket: what the functions of this crate that are not public return. 84 is the `T` of `True`, 70 the `F` of
-- `False`, 78 the `N` of `None`; 91, 40 and 123 are the brackets that open. No contract of a public function names these.
use Rattle.std.specs.Prelude.{ℕ, cond, eqb}
use Rattle.literal_bytes.specs.declared.ValueKind.{ValueKind}
use Rattle.literal_bytes.specs.declared.ValueKind.TheVariants.{Square, Round, Curly, TrueWord, FalseWord, NoneWord, Other}

abbrev pub word_kind : ℕ → ValueKind
word_kind b = cond (eqb b 84) TrueWord (cond (eqb b 70) FalseWord (cond (eqb b 78) NoneWord Other))

abbrev pub bracket_kind : ℕ → ValueKind
bracket_kind b = cond (eqb b 91) Square (cond (eqb b 40) Round (cond (eqb b 123) Curly Other))
