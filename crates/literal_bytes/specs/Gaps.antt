-- Document 01, "The literal": "A list is `[`, no or more values parted by commas, optional last comma, `]`. A tuple likewise with `(` `)`, but one
-- element needs its comma: `(3)` is no value. A dict has `key: value` items, both sides any values, in braces with the same commas." What is between the items of a
-- bracket: blanks, commas (44), colons (58) and the closing bracket `close`.
use Rattle.std.specs.Prelude.{ℕ, ◌+◌, List, Bool, cond, not, ◌&&◌, length, eqb, leb, ltb}
use Rattle.literal_bytes.specs.Text.{byte_at, skip}
use Rattle.literal_bytes.specs.declared.Parsed.{Parsed}
use Rattle.literal_bytes.specs.declared.Parsed.TheVariants.{Value, Fault, Deep}
use Rattle.literal_bytes.specs.declared.Gap.{Gap}
use Rattle.literal_bytes.specs.declared.Gap.TheVariants.{Shut, Item, Stray}

-- after the opening bracket or a comma, and blanks: the closing bracket, or the place of an item
unfoldable pub gap_at : List ℕ → ℕ → ℕ → Gap
gap_at s at close = cond (eqb (byte_at s (skip s at)) close) (Shut (skip s at + 1)) (Item (skip s at))

-- after an item and blanks: the closing bracket; a comma and then as above; or a fault
unfoldable pub then_at : List ℕ → ℕ → ℕ → Gap
then_at s at close = cond (eqb (byte_at s (skip s at)) close) (Shut (skip s at + 1)) (cond (eqb (byte_at s (skip s at)) 44) (gap_at s (skip s at + 1) close) (Stray (skip s at)))

-- whether a comma (44), one space (32) and then an item begin at `at`: the third byte is above 32, so no blank, and does not close; nor is the comma a closing bracket
abbrev pub comma_space_item_at : List ℕ → ℕ → ℕ → Bool
comma_space_item_at s at close = leb (at + 3) (length s) && ((((eqb (byte_at s at) 44 && eqb (byte_at s (at + 1)) 32) && ltb 32 (byte_at s (at + 2))) && not (eqb (byte_at s (at + 2)) close)) && not (eqb close 44))

-- whether the bracket closes at `at`, without blanks before it; `close` is above 32, so no blank itself
abbrev pub shut_at : List ℕ → ℕ → ℕ → Bool
shut_at s at close = ltb at (length s) && (eqb (byte_at s at) close && ltb 32 close)

-- after blanks: the byte b, or a fault
unfoldable pub need_at : List ℕ → ℕ → ℕ → Parsed
need_at s at b = cond (eqb (byte_at s (skip s at)) b) (Value (skip s at + 1)) (Fault (skip s at))

-- how a bracket ends at a gap: at the closing bracket; an item that does not belong there is a fault
abbrev pub ended_at : Gap → Parsed
ended_at (Shut e) = Value e
ended_at (Item p) = Fault p
ended_at (Stray p) = Fault p

-- the position where a value begins, after the blanks that follow its colon
abbrev pub begins_by : List ℕ → Parsed → Parsed
begins_by s (Value e) = Value (skip s e)
begins_by s (Fault p) = Fault p
begins_by s (Deep p) = Deep p

-- after a key: its colon (58), and where its value begins
abbrev pub colon_at : List ℕ → ℕ → Parsed
colon_at s at = begins_by s (need_at s at 58)
