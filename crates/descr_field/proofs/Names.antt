-- The name of a field: a string ends where it is shut, and what is no string is no name. By the kind of the first byte.
use Prim.Native.Nat.{ℕ, ◌+◌}
use mathlib.Core.Path.{◌≡◌, refl, sym, ap, ◌∙◌}
use mathlib.Core.List.{List}
use mathlib.Core.Bool.{Bool, true, false, cond}
use lib.ListN.{length}
use Rattle.counts.specs.Outcome.{gives, refused}
use Rattle.literal_bytes.specs.Got.{pos}
use Rattle.literal_bytes.specs.Text.{byte_at, kind_of}
use Rattle.literal_escapes.specs.Strings.{spelled}
use Rattle.literal_bytes.specs.declared.Parsed.{Parsed}
use Rattle.literal_bytes.specs.declared.ValueKind.TheVariants.{Quote}
use Rattle.literal.specs.Literal.{value}
use Rattle.shape_text.proofs.Numbers.{token_value}
use Rattle.descr_field.specs.Begins.{is_string}
use Rattle.descr_field.proofs.Begins.{string_kind}
use Rattle.descr_totals.specs.Totals.{name_totals}
use Rattle.descr_field.specs.Parts.{name_verdict}

module _ (s : List ℕ) (at : ℕ) where
  pub string_ends : (k : ℕ) (r : Parsed) → is_string (kind_of (byte_at s at)) ≡ true → r ≡ (spelled (byte_at s at) s (at + 1)).ended → r ≡ pos (value k s at)
  string_ends k r t he = he ∙ token_value k s at Quote (string_kind (kind_of (byte_at s at)) t) refl

  pub name_string : is_string (kind_of (byte_at s at)) ≡ true → gives (name_totals (length (spelled (byte_at s at) s (at + 1)).bytes)) ≡ name_verdict s at
  name_string t = sym (ap (λ (b : Bool). cond b (gives (name_totals (length (spelled (byte_at s at) s (at + 1)).bytes))) (refused 14)) t)

  pub name_other : is_string (kind_of (byte_at s at)) ≡ false → refused 14 ≡ name_verdict s at
  name_other t = sym (ap (λ (b : Bool). cond b (gives (name_totals (length (spelled (byte_at s at) s (at + 1)).bytes))) (refused 14)) t)
