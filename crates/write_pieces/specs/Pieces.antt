-- Pieces of the dict's text, each before whatever follows. Document 01, "Header bytes out": "`{'descr': D, 'fortran_order': False, 'shape': (3, ), }`, each
-- dimension followed by comma and space. D is `'<i4'`, or `[('a', '<i4'), ('b', '<f8', (2,3,)), ]` with every field followed by comma and space." And the array
-- levels of a field's sub-shape, read from any table.
use Rattle.std.specs.Prelude.{ℕ, zero, suc, ◌+◌, cond, List, [], ◌∷◌, ◌++◌, eqb, length}
use Rattle.counts.specs.Outcome.{Outcome, gives, refused}
use Rattle.decimal.specs.Decimal.{printed}
use Rattle.literal_grammar.specs.Print.{quote, word, pair, no_more, print, print_pairs}
use Rattle.type_str.specs.declared.TypeStr.{TypeStr}
use Rattle.type_str.specs.Text.{type_text}
use Rattle.dtype.specs.declared.Order.{Order}
use Rattle.dtype.specs.Agrees.{entry_at}
use Rattle.record.specs.Dict.{key_order, key_shape}
use Rattle.record.specs.Layout.{shape_layout, is_fortran}

-- numbers, each between the same two texts: `2, 3, `
abbrev pub numbers_between : (before after ns : List ℕ) → List ℕ → List ℕ
numbers_between before after [] r = r
numbers_between before after (n ∷ ns) r = before ++ printed n (after ++ numbers_between before after ns r)

-- `'<i4'`; nothing where there is no type
abbrev pub type_piece : Outcome TypeStr → List ℕ → List ℕ
type_piece (gives t) r = print (quote (type_text t [])) r
type_piece (refused n) r = r

-- the dimensions of the array levels from entry e on, outermost first: kind 1 is an array's. At most so many; as many as the table has numbers are enough, as no entry
-- past its end is an array's
unfoldable pub levels_from : (most : ℕ) (t : List ℕ) (e : ℕ) → List ℕ
levels_from zero t e = []
levels_from (suc k) t e = cond (eqb (entry_at t e).kind 1) ((entry_at t e).number ∷ levels_from k t (e + 1)) []

abbrev pub levels_at : (t : List ℕ) (e : ℕ) → List ℕ
levels_at t e = levels_from (length t) t e

-- a field's sub-shape after its type: nothing where it has none
abbrev pub sub_text : (levels : List ℕ) → List ℕ → List ℕ
sub_text [] r = r
sub_text (n ∷ ns) r = 44 ∷ 32 ∷ print (shape_layout 0 (n ∷ ns)) r

-- what comes before a field's type: `('a', `
abbrev pub open_text : (name : List ℕ) → List ℕ → List ℕ
open_text name r = 40 ∷ print (quote name) (44 ∷ 32 ∷ r)

-- what comes after it: its sub-shape, `)`, and "every field followed by comma and space"
abbrev pub close_text : (levels : List ℕ) → List ℕ → List ℕ
close_text levels r = sub_text levels (41 ∷ 44 ∷ 32 ∷ r)

-- what comes after D: `, 'fortran_order': False, 'shape': (3, ), }`
abbrev pub rest_text : Order → (shape : List ℕ) → List ℕ → List ℕ
rest_text o s r = 44 ∷ 32 ∷ print_pairs (pair (quote key_order) 1 (word (is_fortran o)) 1 (pair (quote key_shape) 1 (shape_layout 1 s) 1 no_more)) (125 ∷ r)
