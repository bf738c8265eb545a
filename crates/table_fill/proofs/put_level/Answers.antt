-- Without the room nothing is written; with it the number of the entry is below 2^64, and so is that of its parent.
use Prim.Native.Nat.{ℕ, ◌+◌, ◌-◌}
use native.Mathlib.Omega.{arith}
use mathlib.Core.Path.{sym, ap, ◌∙◌}
use Rattle.table_fill.specs.Written.{put, bare, up_of}
use Rattle.table_fill.proofs.Levels.{put_none, up_fits}
use Rattle.table_fill.proofs.put_level.Goals as goal

pub returns-then-all-k : goal.returns-then-all-k
returns-then-all-k c = let a = c.args in sym (put_none a.table.now (a.entry + a.k) _ (omega (arith, c.if-all-k.true)))

pub returns-then-all-k-2 : goal.returns-then-all-k-2
returns-then-all-k-2 c = let a = c.args in sym (put_none a.table.now (a.entry + a.k) _ (omega (arith, c.if-all-k-2.true, c.if-all-k.false)))

pub returns : goal.returns
returns c =
    let a = c.args in
    let at = a.entry + a.k in
    let up = c.parent-head.ensures ∙ up_fits a.k a.entry a.up c.ranges.up.fits (omega (arith, c.if-all-k-2.false, c.if-all-k.false)) in
    c.put_entry.ensures ∙ ap (put a.table.now at) c.bare_entry.ensures
    ∙ ap (λ (x : ℕ). put a.table.now at (bare 1 x a.number c.entries_between.result a.size.0 c.name_of-own.result)) up
    ∙ ap (λ (x : ℕ). put a.table.now at (bare 1 (up_of a.k a.entry a.up) a.number x a.size.0 c.name_of-own.result)) c.entries_between.ensures
    ∙ ap (λ (x : ℕ). put a.table.now at (bare 1 (up_of a.k a.entry a.up) a.number (a.stop - at) a.size.0 x)) c.name_of-own.ensures
