-- The text of a record that was checked: its strides, and its lines in turn.
use Rattle.refusal.specs.declared.Refusal.{Refusal}
use Rattle.counts.specs.declared.Bytes.{Bytes}
use Rattle.std.specs.Prelude.{Option, Result}
use Prim.Native.Nat.{ℕ, ◌/◌}
use native.Mathlib.Omega.{arith}
use mathlib.Core.Path.{◌≡◌, refl, sym, ap, subst, ◌∙◌}
use mathlib.Core.List.{List}
use lib.ListN.{length, take, drop}
use lib.Seq.{take-append_seam}
use borrow.Author.Tests.{le-ltb, ltb-false}
use Rattle.counts.specs.Outcome.{Outcome, gives, afterwards}
use Rattle.counts.specs.declared.Items.{Items}
use Rattle.emit.specs.Emits.{Emits}
use Rattle.emit.proofs.Pieces.{emits_then, emits_same}
use Rattle.dtype.specs.declared.Order.{Order}
use Rattle.dtype.specs.Dtype.{Dtype}
use Rattle.dtype.specs.Entries.{entries_of}
use Rattle.dtype.specs.Record.{entry_width, table}
use Rattle.dtype.specs.Shape.{product, strides}
use Rattle.dtype.specs.Limits.{over_dimensions, over_levels}
use Rattle.dtype.proofs.Strides.{strides_length}
use Rattle.dtype.proofs.Seen.{table_length, or_left}
use Rattle.counts.specs.Lists.{at_front}
use Rattle.shape.specs.Count.{strides_count, WritesStrides}
use Rattle.record.specs.Prefix.{Version}
use Rattle.check_record.specs.Answer.{item_size}
use Rattle.check_record.specs.Valid.{made}
use Rattle.check_record.proofs.Accepts.{limits_of_lem}
use Rattle.place.specs.Walk.{Accepted}
use Rattle.list_text.specs.Listing.{version_line, order_line, shape_line, strides_line, count_line, item_line, data_line, entry_lines, listing}
use Rattle.list_text.specs.Strided.{Strided}
use Rattle.list_text.proofs.Pieces.{three}

-- ---- the strides
module _ (o : Order) (s zeros : List ℕ) (r : Result Items Refusal) (out : List ℕ) (long : length zeros ≡ 32) (st : Strided o s) (w : WritesStrides o s zeros r out) where
  strides_there : strides_count o s (length zeros) ≡ gives (product s)
  unfolding strides_count
  strides_there = rw (st.fits, le-ltb (length zeros) (length s) (omega (arith, long, st.few))) refl

  held : out ≡ at_front (strides o s) zeros
  held = w.out_after ∙ ap (λ (x : Outcome ℕ). afterwards (λ n. at_front (strides o s)) x zeros) strides_there

  pub strides_held : take (length s) out ≡ strides o s
  strides_held =
      ap (λ (n : ℕ). take n out) (sym (strides_length o s))
      ∙ ap (take (length (strides o s))) held
      ∙ take-append_seam (strides o s) (drop (length (strides o s)) zeros)

pub strides_known : (s s' old : List ℕ) (at : ℕ) (out : List ℕ) (p : ℕ) → s ≡ s' → Emits (strides_line s) old at out p → Emits (strides_line s') old at out p
strides_known s s' old at out p e h = subst (λ (y : List ℕ). Emits (strides_line y) old at out p) e h

-- ---- the whole, of a record that was checked
module _ (t ns s : List ℕ) (o : Order) (d : Dtype) (size : Option Bytes) (count : Items) (a : Accepted t ns s o d size count) where
  pub strided : Strided o s
  strided =
      record {
        few = ltb-false 32 (length s) (or_left (over_dimensions s) (over_levels d) (limits_of_lem (made d s o) a.valid.limits).0);
        fits = (limits_of_lem (made d s o) a.valid.limits).3;
      }

  entries_there : length t / entry_width ≡ entries_of d
  entries_there =
      let l : length t ≡ length (table d) = ap length a.valid.table_is in
      let m = table_length d in
      omega (arith, l, m)

  text_there : (v : Version) (start : ℕ) (x : List ℕ)
      → version_line v (order_line o (shape_line s (strides_line (strides o s) (count_line count.0 (item_line size (data_line start (entry_lines (length t / entry_width) 0 t ns x)))))))
      ≡ listing v start (made d s o) x
  unfolding listing
  text_there v start x =
      ap (λ (n : ℕ). version_line v (order_line o (shape_line s (strides_line (strides o s) (count_line n (item_line size (data_line start (entry_lines (length t / entry_width) 0 t ns x)))))))) a.count_is
      ∙ ap (λ (z : Option Bytes). version_line v (order_line o (shape_line s (strides_line (strides o s) (count_line (product s) (item_line z (data_line start (entry_lines (length t / entry_width) 0 t ns x)))))))) a.size_is
      ∙ ap (λ (k : ℕ). version_line v (order_line o (shape_line s (strides_line (strides o s) (count_line (product s) (item_line (item_size d) (data_line start (entry_lines k 0 t ns x)))))))) entries_there
      ∙ ap (λ (u : List ℕ). version_line v (order_line o (shape_line s (strides_line (strides o s) (count_line (product s) (item_line (item_size d) (data_line start (entry_lines (entries_of d) 0 u ns x)))))))) a.valid.table_is
      ∙ ap (λ (u : List ℕ). version_line v (order_line o (shape_line s (strides_line (strides o s) (count_line (product s) (item_line (item_size d) (data_line start (entry_lines (entries_of d) 0 (table d) u x)))))))) a.valid.names_are

  pub all_there :
      (v : Version) (start : ℕ) (old : List ℕ) (m₁ : List ℕ) (p₁ : ℕ) (m₂ : List ℕ) (p₂ : ℕ) (m₃ : List ℕ) (p₃ : ℕ) (m₄ : List ℕ) (p₄ : ℕ) (m₅ : List ℕ) (p₅ : ℕ) (m₆ : List ℕ) (p₆ : ℕ) (m₇ : List ℕ) (p₇ : ℕ) (out : List ℕ) (q : ℕ)
      → Emits (version_line v) old 0 m₁ p₁ → Emits (order_line o) m₁ p₁ m₂ p₂ → Emits (shape_line s) m₂ p₂ m₃ p₃ → Emits (strides_line (strides o s)) m₃ p₃ m₄ p₄
      → Emits (count_line count.0) m₄ p₄ m₅ p₅ → Emits (item_line size) m₅ p₅ m₆ p₆ → Emits (data_line start) m₆ p₆ m₇ p₇
      → Emits (entry_lines (length t / entry_width) 0 t ns) m₇ p₇ out q → Emits (listing v start (made d s o)) old 0 out q
  all_there v start old m₁ p₁ m₂ p₂ m₃ p₃ m₄ p₄ m₅ p₅ m₆ p₆ m₇ p₇ out q h₁ h₂ h₃ h₄ h₅ h₆ h₇ h₈ =
      emits_same (λ x. version_line v (order_line o (shape_line s (strides_line (strides o s) (count_line count.0 (item_line size (data_line start (entry_lines (length t / entry_width) 0 t ns x))))))))
      (listing v start (made d s o)) old 0 out q (text_there v start)
      (three (λ x. version_line v (order_line o (shape_line s x))) (λ x. strides_line (strides o s) (count_line count.0 (item_line size x))) (λ x. data_line start (entry_lines (length t / entry_width) 0 t ns x)) old 0 m₃ p₃ m₆ p₆ out q
      (three (version_line v) (order_line o) (shape_line s) old 0 m₁ p₁ m₂ p₂ m₃ p₃ h₁ h₂ h₃)
      (three (strides_line (strides o s)) (count_line count.0) (item_line size) m₃ p₃ m₄ p₄ m₅ p₅ m₆ p₆ h₄ h₅ h₆)
      (emits_then (data_line start) (entry_lines (length t / entry_width) 0 t ns) m₆ p₆ m₇ p₇ out q h₇ h₈))
