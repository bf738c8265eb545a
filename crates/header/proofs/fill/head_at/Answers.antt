-- The name begins where the gap after the bracket ends, and the inner descr where the gap after the name does.
use Prim.Native.Nat.{ℕ, ◌+◌, ◌≤◌}
use native.Mathlib.Omega.{arith}
use mathlib.Core.Path.{◌≡◌, sym, ap, subst, ◌∙◌}
use lib.ListN.{length}
use lib.Seq.{sets}
use Rattle.literal_bytes.specs.Text.{byte_at}
use Rattle.literal_escapes.specs.Strings.{Spelled, spelled}
use Rattle.literal_escapes.specs.declared.Scan.{Scan}
use Rattle.literal.specs.Answer.{end_of}
use Rattle.literal_bytes.specs.Gaps.{then_at}
use Rattle.descr_field.specs.Begins.{gap_place}
use Rattle.header.specs.Filled.{name_place}
use Rattle.header.proofs.fill.head_at.Goals as goal

pub name_at-m-requires : goal.name_at-m-requires
name_at-m-requires c =
    let a = c.args in
    let s = a.text.now in
    let p : c.place_of-p.result ≡ name_place s a.at a.close = c.place_of-p.ensures ∙ ap gap_place c.gap_at.ensures in
    record { at_in_bounds = omega (arith, p, c.requires.begins); at_in_bounds_2 = subst (λ (x : ℕ). a.byte + length (spelled (byte_at s x) s (x + 1)).bytes ≤ length a.names.now) (sym p) c.requires.room }

pub overflow_add-result : goal.overflow_add-result
overflow_add-result c =
    let a = c.args in
    let s = a.text.now in
    let p : c.place_of-p.result ≡ name_place s a.at a.close = c.place_of-p.ensures ∙ ap gap_place c.gap_at.ensures in
    omega (arith, ap (λ (x : Scan). x.len) c.name_at-m.ensures.value ∙ ap (λ (x : ℕ). length (spelled (byte_at s x) s (x + 1)).bytes) p, c.requires.room, c.well_formed.1.1.1.0.0)

pub returns : goal.returns
returns c =
    let a = c.args in
    let s = a.text.now in
    let p : c.place_of-p.result ≡ name_place s a.at a.close = c.place_of-p.ensures ∙ ap gap_place c.gap_at.ensures in
    let z = ap (λ (x : ℕ). spelled (byte_at s x) s (x + 1)) p in
    let m = c.name_at-m.ensures.value in
    let len = ap (λ (x : Scan). x.len) m ∙ ap (λ (x : Spelled). length x.bytes) z in
    record {
      counted = len;
      next_name = ap (λ (x : ℕ). a.byte + x) len;
      goes_on = c.place_of.ensures ∙ ap gap_place c.then_at.ensures
          ∙ ap (λ (x : ℕ). gap_place (then_at s x a.close)) (c.end_place.ensures ∙ ap (λ (x : Scan). end_of x.ended) m ∙ ap (λ (x : Spelled). end_of x.ended) z);
      names_after = c.name_at-m.ensures.names_after ∙ ap (λ (x : Spelled). sets a.names.now a.byte x.bytes) z;
    }
