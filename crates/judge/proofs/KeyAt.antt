-- A key that is a string, read once: without an escape its bytes are a part of the text (`raw_says` of crate descr_field).
use Prim.Native.Nat.{ℕ, ◌+◌, ◌-◌, ◌<◌, ◌≤◌}
use native.Mathlib.Omega.{arith}
use mathlib.Core.Path.{◌≡◌, refl, sym, ap, subst, ◌∙◌}
use mathlib.Core.List.{List}
use mathlib.Core.Bool.{Bool, true, false, ◌||◌, not}
use lib.ListN.{length, get_or, take, drop}
use lib.Dec.{ltb}
use borrow.Author.Tests.{le-ltb, not-true, not-false}
use Rattle.counts.specs.Outcome.{gives}
use Rattle.literal_bytes.specs.Got.{pos}
use Rattle.literal_bytes.specs.Text.{byte_at, kind_of}
use Rattle.literal_escapes.specs.Strings.{spelled, scanned}
use Rattle.literal_bytes.specs.declared.Parsed.{Parsed}
use Rattle.literal_bytes.specs.declared.Parsed.TheVariants.{Value as Ends}
use Rattle.literal_escapes.specs.declared.Scan.{Scan}
use Rattle.literal_bytes.specs.declared.ValueKind.TheVariants.{Quote}
use Rattle.literal_bytes.proofs.Positions.{get_d_any, kind_in}
use Rattle.literal_bytes.specs.Gaps.{colon_at}
use Rattle.literal.specs.Literal.{value}
use Rattle.literal_bytes.proofs.Ends.{Stops}
use Rattle.literal.proofs.Steps.{key_stop, key_colon}
use Rattle.shape_text.proofs.Numbers.{token_value}
use Rattle.descr_field.specs.Begins.{is_string}
use Rattle.descr_field.proofs.Begins.{string_kind}
use Rattle.descr_field.proofs.Escapes.{raw_inside, raw_says}
use Rattle.judge_names.specs.declared.Name.{Name}
use Rattle.judge_names.specs.Answer.{NameIs}
use Rattle.judge.specs.Keys.{KeyIs}
use Rattle.judge.proofs.Braces.{name_by_lem}

-- ---- whether a string begins at the position
module _ (s : List ℕ) (at : ℕ) (t : Bool) (said : t ≡ is_string (kind_of (byte_at s at))) where
  pub begins_string : not t ≡ false → kind_of (byte_at s at) ≡ Quote
  begins_string h = string_kind (kind_of (byte_at s at)) (sym said ∙ not-false t h)

  pub begins_other : not t ≡ true → is_string (kind_of (byte_at s at)) ≡ false
  begins_other h = sym said ∙ not-true t h

-- ---- there is a quote at the position, and r is the scan after it
module _ (s : List ℕ) (at : ℕ) (z : kind_of (byte_at s at) ≡ Quote) (r : Scan) (hr : r ≡ scanned (spelled (get_or s at 0) s (at + 1))) where
  in_text : at < length s
  in_text = kind_in s at z refl

  the_quote : get_or s at 0 ≡ byte_at s at
  the_quote = get_d_any s at 0 256 in_text

  ends : (k : ℕ) → r.ended ≡ pos (value k s at)
  ends k = ap (λ (x : Scan). x.ended) hr ∙ ap (λ (q : ℕ). (spelled q s (at + 1)).ended) the_quote ∙ token_value k s at Quote z refl

  pub key_fault : (k : ℕ) (name : Name) → Stops r.ended → KeyIs k s at (record { name = name; begins = r.ended })
  key_fault k name st = record { begins = key_stop (value k s) s at r.ended (ends k) st; named = λ j n e h. absurd (subst Stops (ends j ∙ ap pos h) st) }

  pub key_string : (k q : ℕ) (name : Name) (begins : Parsed) → r.ended ≡ Ends q → begins ≡ colon_at s q → NameIs name (gives (spelled (get_or s at 0) s (at + 1)).bytes)
      → KeyIs k s at (record { name = name; begins = begins })
  key_string k q name begins he hb hn =
      let here = subst (λ (b : ℕ). NameIs name (gives (spelled b s (at + 1)).bytes)) the_quote hn in
      record { begins = hb ∙ key_colon (value k s) s at q (sym he ∙ ends k); named = λ j n e h. name_by_lem j s at e n h name z here }

  module _ (plain : r.escape ≡ false) where
    raw : (r.escape || ltb (length s) (at + 1)) ≡ false
    raw = ap (λ (t : Bool). t || ltb (length s) (at + 1)) plain ∙ le-ltb (length s) (at + 1) (omega (arith, in_text))

    pub raw_within : at + 1 + r.len ≤ length s
    raw_within = raw_inside (get_or s at 0) s (at + 1) r hr raw

    pub raw_named : (name : Name) → NameIs name (gives (take (at + 1 + r.len - (at + 1)) (drop (at + 1) s))) → NameIs name (gives (spelled (get_or s at 0) s (at + 1)).bytes)
    raw_named name h = subst (λ (u : List ℕ). NameIs name (gives u)) (raw_says (get_or s at 0) s (at + 1) r hr raw) h
