-- Demand 3 (specs/Places.antt) holds of every file that is read: the record in the rooms is one that a reading gave, so the check accepts it, and for such records crate
-- place shows that what is answered is document 01's formula, and crate dtype that by the formula each byte of the data area belongs to exactly one place.
use Rattle.std.specs.Prelude.{Err, Ok}
use Prim.Native.Nat.{ℕ, ◌+◌, ◌≤◌}
use native.Mathlib.Omega.{arith}
use mathlib.Core.Path.{◌≡◌, refl, sym, ap, ◌∙◌}
use mathlib.Core.Bool.{Bool, true, false, not}
use mathlib.Core.List.{List}
use lib.ListN.{length}
use mathlib.Core.Logic.{◌⊎◌, inl, inr}
use borrow.Author.Tests.{le-ltb}
use Rattle.counts.specs.Outcome.{Outcome, gives, refused, then, each, unless, afterwards}
use Rattle.counts.proofs.OneOutcome.{pair_of}
use Rattle.refusal.specs.declared.Refusal.{Refusal}
use Rattle.type_str.specs.declared.TypeStr.{TypeStr}
use Rattle.dtype.specs.declared.Order.{Order}
use Rattle.dtype.specs.Entries.{has_object}
use Rattle.dtype.specs.Shape.{in_range}
use Rattle.dtype.specs.Record.{Record}
use Rattle.dtype.specs.Places.{plain_at, data_bytes, place, Ask}
use Rattle.dtype.proofs.Runs.{Belongs, PathTo, run_plain}
use Rattle.dtype.proofs.Items.{range_true}
use Rattle.dtype.proofs.Paths.{path_plain}
use Rattle.dtype.proofs.Places.{run_inside, owned, owned_once}
use Rattle.check_record.specs.Valid.{Valid}
use Rattle.check_record.proofs.Accepts.{valid_checked}
use Rattle.place_area.specs.declared.Run.{Run}
use Rattle.place.specs.Place.{run_from, placed, place_of}
use Rattle.place.proofs.Placing.{place_given}
use Rattle.place.proofs.Outcomes.{place_one}
use Rattle.place.proofs.Walks.{path_or_none, plain_path}
use Rattle.place_item.proofs.Sums.{range_of}
use Rattle.header.specs.Reads.{info_of, header_info, header_answer}
use Rattle.npy_codes.specs.Codes.{code, Returns, order_number, header_values, run_values}
use Rattle.npy_codes.proofs.Then.{returns_same}
use Rattle.claims.specs.Functions.{Place}
use Rattle.claims.specs.InC.{NpyPlace}
use Rattle.claims.specs.Places.{Owns, Owned, RecordOwned, RecordOwnedInC, HeaderStored, DataOwned, DataOwnedInC}
use Rattle.claims.proofs.WasRead.{values_one, valid_own}
use Rattle.claims.specs.Doors.{in_rattle}
use Rattle.claims.proofs.Doors.{rattle_fails, succeeded}
use Rattle.claims.proofs.Found.{order_back, read_was, npy_read_was}

-- ---- a path to a plain type, or 26
plain_or : (r : Record) (p : List ℕ) → ((k : TypeStr) → plain_at r.dtype p ≡ gives k → ⊥) → plain_at r.dtype p ≡ refused 26
plain_or r p f = go (path_or_none r.dtype p)
  where
    go : PathTo r.dtype p ⊎ (plain_at r.dtype p ≡ refused 26) → plain_at r.dtype p ≡ refused 26
    go (inl g) = let k = path_plain r.dtype p g in absurd (f k.0 k.1)
    go (inr e) = e

-- ---- past 24 and 25 the outcome is document 01's formula, or 26
abbrev formula : (start : ℕ) → Record → (x p : List ℕ) → Outcome Run
formula start r x p = unless (not (in_range r.shape x)) 26 (each (λ k. run_from (place start r x p) k) (plain_at r.dtype p))

by_formula : (file start : ℕ) (t ns s : List ℕ) (o : Order) (r : Record) → Valid t ns s o r → has_object r.dtype ≡ false → start + data_bytes r ≤ file
    → (x p : List ℕ) → place_of file start t ns s o x p ≡ formula start r x p
unfolding placed
by_formula file start t ns s o r valid no_object long x p =
    sym (place_given file start t ns s o x p r (valid_checked t ns s o r valid)) ∙ simp (no_object, le-ltb file (start + data_bytes r) long)

formula_named : (start : ℕ) (r : Record) (x p : List ℕ) (k : TypeStr) → in_range r.shape x ≡ true → plain_at r.dtype p ≡ gives k
    → formula start r x p ≡ gives (run_from (place start r x p) k)
formula_named start r x p k g e = rw (g, e)

formula_none : (start : ℕ) (r : Record) (x p : List ℕ) → ((k : TypeStr) → in_range r.shape x ≡ true → plain_at r.dtype p ≡ gives k → ⊥) → formula start r x p ≡ refused 26
formula_none start r x p f = go (in_range r.shape x) refl
  where
    go : (b : Bool) → in_range r.shape x ≡ b → unless (not b) 26 (each (λ k. run_from (place start r x p) k) (plain_at r.dtype p)) ≡ refused 26
    go true g = ap (each (λ k. run_from (place start r x p) k)) (plain_or r p (λ k e. f k g e))
    go false g = refl

-- ---- a byte belongs as crate dtype says
owns_belongs : (start : ℕ) (r : Record) (a : Ask) (b : ℕ) → Owns start r a b → Belongs start r b a
owns_belongs start r a b w =
    record {
      index_in_range = range_of r.shape a.index w.index_in_range;
      is_path = plain_path r.dtype a.path w.kind w.leads;
      in_run = omega (arith, w.in_run, run_plain r.dtype a.path w.kind w.leads);
      is_byte = w.is_byte;
    }

belongs_owns : (start : ℕ) (r : Record) (a : Ask) (b : ℕ) → Belongs start r b a → Owns start r a b
belongs_owns start r a b w =
    let (k, leads) = path_plain r.dtype a.path w.is_path in
    record {
      kind = k;
      index_in_range = range_true r.shape a.index w.index_in_range;
      leads = leads;
      in_run = omega (arith, w.in_run, run_plain r.dtype a.path k leads);
      is_byte = w.is_byte;
    }

-- ---- a function that returns the formula's outcome owns the data area
-- the results of its calls, by the outcomes
record Answers {Y : Type 0} (Call : (x p : List ℕ) → Y → Type 0) (at : Run → Y) (nowhere : Y) (outcome : (x p : List ℕ) → Outcome Run) : Type 0 where
  run_is : (x p : List ℕ) (y : Y) (u : Run) → Call x p y → outcome x p ≡ gives u → y ≡ at u
  none_is : (x p : List ℕ) (y : Y) → Call x p y → outcome x p ≡ refused 26 → y ≡ nowhere

area_owned : {Y : Type 0} (Call : (x p : List ℕ) → Y → Type 0) (at : Run → Y) (nowhere : Y) (outcome : (x p : List ℕ) → Outcome Run) (start : ℕ) (r : Record)
    → Answers Call at nowhere outcome → ((x p : List ℕ) → outcome x p ≡ formula start r x p) → Owned Call at nowhere start r
area_owned Call at nowhere outcome start r answers is =
    record {
      by_formula = λ x p k g e y c. answers.run_is x p y _ c (is x p ∙ formula_named start r x p k g e);
      inside = λ x p k g e.
          (omega arith, omega (arith, run_inside start r x p (range_of r.shape x g) (plain_path r.dtype p k e), run_plain r.dtype p k e));
      elsewhere = λ x p f y c. answers.none_is x p y c (is x p ∙ formula_none start r x p f);
      each_byte = λ b g. let (a, w) = owned start r b g in (a, belongs_owns start r a (start + b) w);
      once = λ b a a' w w'. owned_once start r b a a' (owns_belongs start r a b w) (owns_belongs start r a' b w');
    }

-- ---- `place::place`
place_answers : (file start : ℕ) (t ns s : List ℕ) (o : Order)
    → Answers (Place file start t ns s o) Ok (Err Refusal.Nowhere) (place_of file start t ns s o)
place_answers file start t ns s o =
    record {
      run_is = λ x p y u c e. place_one file start t ns s o x p y (Ok u) c (sym e);
      none_is = λ x p y c e. place_one file start t ns s o x p y (Err Refusal.Nowhere) c (sym e);
    }

-- ---- `npy_place`, with the number of an order
module _ (file start : ℕ) (t ns s : List ℕ) (o : Order) (room : List ℕ) where
  returned_place : (x p : List ℕ) (r : ℕ) (room' : List ℕ) → NpyPlace file start t ns s (order_number o) x p room r room'
      → Returns run_values (place_of file start t ns s o x p) room r room'
  returned_place x p r room' c = returns_same (ap (λ (g : Outcome Order). then g (λ o. place_of file start t ns s o x p)) (order_back o)) c

  npy_place_answers : Answers {Y = ℕ × List ℕ} (λ x p y. NpyPlace file start t ns s (order_number o) x p room y.0 y.1) (λ u. (0, run_values u)) (26, room) (place_of file start t ns s o)
  npy_place_answers =
      record {
        run_is = λ x p y u c e.
            let h = returned_place x p y.0 y.1 c in
            pair_of (h.answered ∙ ap code e) (h.after ∙ ap (λ (q : Outcome Run). afterwards (λ a old. run_values a) q room) e);
        none_is = λ x p y c e.
            let h = returned_place x p y.0 y.1 c in
            pair_of (h.answered ∙ ap code e) (h.after ∙ ap (λ (q : Outcome Run). afterwards (λ a old. run_values a) q room) e);
      }

-- DEMAND 3
pub record_owned : RecordOwned
record_owned file start t ns s o r valid no_object long =
    area_owned (Place file start t ns s o) Ok (Err Refusal.Nowhere) (place_of file start t ns s o) start r (place_answers file start t ns s o)
    (by_formula file start t ns s o r valid no_object long)

pub record_owned_in_c : RecordOwnedInC
record_owned_in_c file start t ns s o r valid no_object long run =
    area_owned (λ x p y. NpyPlace file start t ns s (order_number o) x p run y.0 y.1) (λ u. (0, run_values u)) (26, run) (place_of file start t ns s o) start r
    (npy_place_answers file start t ns s o run) (by_formula file start t ns s o r valid no_object long)

pub header_stored : HeaderStored
header_stored =
    record {
      read = λ file l l' x c e.
          let (i, is) = succeeded in_rattle (header_answer x) (header_answer x) refl (rattle_fails (header_answer x)) e in
          let w = read_was file l l' x i c is in
          (w.header_found, is ∙ ap gives w.values, w.held);
      npy_read = λ file l l' said said' c.
          let (i, v, w) = npy_read_was file l l' said said' c in
          (w.header_found, v ∙ ap header_values w.values, w.held);
    }

pub data_owned : DataOwned
data_owned file l l' x h c e held =
    let w = read_was file l l' x (header_info h) c e in
    let own = valid_own file l l' (header_info h) w h refl held in
    record {
      valid = own;
      owned = record_owned (length file) h.data_start _ _ _ (info_of h.says).order h.says own;
    }

pub data_owned_in_c : DataOwnedInC
data_owned_in_c file l l' said said' h c e held run =
    let (i, v, w) = npy_read_was file l l' said said' c in
    let info_is = (values_one i (header_info h) (sym v ∙ e)).0 in
    let own = valid_own file l l' i w h info_is held in
    record {
      valid = own;
      owned = λ no_object long. record_owned_in_c (length file) h.data_start _ _ _ (info_of h.says).order h.says own no_object long run;
    }
