-- No second outcome meets the contracts of this crate: whether a key is a string, and which of the three it is, determines its name.
use Prim.Native.Nat.{ℕ}
use mathlib.Core.Path.{◌≡◌, refl, sym, ◌∙◌}
use mathlib.Core.List.{List}
use mathlib.Core.Bool.{Bool, cond, ◌&&◌}
use Rattle.counts.specs.Outcome.{Outcome, gives, given}
use Rattle.counts.specs.OneOutcome.{OneOutcome}
use Rattle.counts.proofs.OneOutcome.{by_equation}
use Rattle.record.specs.Dict.{key_order, key_shape, key_descr, is_the}
use Rattle.literal_escapes.specs.Strings.{spelled}
use Rattle.literal_bytes.specs.Text.{byte_at, kind_of}
use Rattle.judge_names.specs.declared.Name.{Name}
use Rattle.judge_names.specs.Answer.{key_of, NameIs, WordAt, word_of}

-- the name by the four tests
name_by : (string descr order shape : Bool) → Name
name_by string descr order shape = cond string (cond descr Name.Descr (cond order Name.Order (cond shape Name.Shape Name.Extra))) Name.NoString

abbrev name_from : Outcome (List ℕ) → Name
name_from key = name_by (given key) (is_the key_descr key) (is_the key_order key) (is_the key_shape key)

name_back : (r : Name) → name_from (key_of r) ≡ r
unfolding name_by
name_back Name.Descr = refl
name_back Name.Order = refl
name_back Name.Shape = refl
name_back Name.Extra = refl
name_back Name.NoString = refl

name_recovered : (key : Outcome (List ℕ)) (r : Name) → NameIs r key → name_from key ≡ r
name_recovered key r h = rw (h.of_string, h.of_descr, h.of_order, h.of_shape) (name_back r)

named_one : (key : Outcome (List ℕ)) → OneOutcome (λ r. NameIs r key)
named_one key x y a b = sym (name_recovered key x a) ∙ name_recovered key y b

pub key_of_one : (name : List ℕ) → OneOutcome (λ r. NameIs r (gives name))
key_of_one name = named_one (gives name)

pub name_at_one : (text : List ℕ) (from quote : ℕ) → OneOutcome (λ r. NameIs r (gives (spelled quote text from).bytes))
name_at_one text from quote = named_one (gives (spelled quote text from).bytes)

pub all_strings_one : (strings : Bool) (name : Name) → OneOutcome (λ r. r ≡ strings && given (key_of name))
all_strings_one strings name = by_equation (strings && given (key_of name))

pub word_at_one : (text : List ℕ) (at : ℕ) → OneOutcome (λ r. WordAt text at r × (r ≡ word_of (kind_of (byte_at text at))))
word_at_one text at x y a b = a.1 ∙ sym b.1
