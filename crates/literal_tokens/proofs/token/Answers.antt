-- The kind of the first byte decides, as in the definition; a byte that can begin something is in the text.
use Prim.Native.Nat.{ℕ, ◌+◌}
use mathlib.Core.Path.{◌≡◌, refl, sym, ap, ◌∙◌}
use native.Mathlib.Omega.{arith}
use Rattle.literal_bytes.proofs.Positions.{get_d_any, kind_in}
use Rattle.literal_tokens.proofs.Ends.{token_ends, no_token}
use Rattle.literal_bytes.specs.Text.{byte_at, kind_of}
use Rattle.literal_escapes.specs.Strings.{spelled}
use Rattle.literal_escapes.specs.declared.Scan.{Scan}
use Rattle.literal_tokens.specs.declared.Numeral.{Numeral}
use Rattle.literal_bytes.specs.declared.ValueKind.TheVariants.{Quote, Minus, Digit, TrueWord, FalseWord, NoneWord}
use Rattle.literal_tokens.proofs.token.Goals as goal

pub overflow_add-at : goal.overflow_add-at
overflow_add-at c =
    let s = c.args.text.now in
    let at = c.args.at in
    let hk : kind_of (byte_at s at) ≡ Quote = sym c.kind_at.ensures ∙ c.in-Quote.is in
    let lt = kind_in s at hk refl in
    omega arith

pub bounds-text-at : goal.bounds-text-at
bounds-text-at c =
    let s = c.args.text.now in
    let at = c.args.at in
    let hk : kind_of (byte_at s at) ≡ Quote = sym c.kind_at.ensures ∙ c.in-Quote.is in
    kind_in s at hk refl

pub overflow_add-at-in-Minus : goal.overflow_add-at-in-Minus
overflow_add-at-in-Minus c =
    let s = c.args.text.now in
    let at = c.args.at in
    let hk : kind_of (byte_at s at) ≡ Minus = sym c.kind_at.ensures ∙ c.in-Minus.is in
    let lt = kind_in s at hk refl in
    omega arith

pub returns-in-Quote : goal.returns-in-Quote
returns-in-Quote c =
    let s = c.args.text.now in
    let at = c.args.at in
    let hk : kind_of (byte_at s at) ≡ Quote = sym c.kind_at.ensures ∙ c.in-Quote.is in
    let quote = get_d_any s at 0 256 (kind_in s at hk refl) in
    ap (λ (r : Scan). r.ended) c.scan_at.ensures ∙ ap (λ (b : ℕ). (spelled b s (at + 1)).ended) quote ∙ token_ends s at Quote hk

pub returns-in-Minus : goal.returns-in-Minus
returns-in-Minus c =
    let s = c.args.text.now in
    let at = c.args.at in
    let hk : kind_of (byte_at s at) ≡ Minus = sym c.kind_at.ensures ∙ c.in-Minus.is in
    ap (λ (r : Numeral). r.ended) c.numeral_at.ensures ∙ token_ends s at Minus hk

pub returns-in-Digit : goal.returns-in-Digit
returns-in-Digit c =
    let s = c.args.text.now in
    let at = c.args.at in
    let hk : kind_of (byte_at s at) ≡ Digit = sym c.kind_at.ensures ∙ c.in-Digit.is in
    ap (λ (r : Numeral). r.ended) c.numeral_at-in-Digit.ensures ∙ token_ends s at Digit hk

pub returns-in-TrueWord : goal.returns-in-TrueWord
returns-in-TrueWord c =
    let s = c.args.text.now in
    let at = c.args.at in
    let hk : kind_of (byte_at s at) ≡ TrueWord = sym c.kind_at.ensures ∙ c.in-TrueWord.is in
    c.word.ensures ∙ token_ends s at TrueWord hk

pub returns-in-FalseWord : goal.returns-in-FalseWord
returns-in-FalseWord c =
    let s = c.args.text.now in
    let at = c.args.at in
    let hk : kind_of (byte_at s at) ≡ FalseWord = sym c.kind_at.ensures ∙ c.in-FalseWord.is in
    c.word-in-FalseWord.ensures ∙ token_ends s at FalseWord hk

pub returns-in-NoneWord : goal.returns-in-NoneWord
returns-in-NoneWord c =
    let s = c.args.text.now in
    let at = c.args.at in
    let hk : kind_of (byte_at s at) ≡ NoneWord = sym c.kind_at.ensures ∙ c.in-NoneWord.is in
    c.word-in-NoneWord.ensures ∙ token_ends s at NoneWord hk

pub returns-in-Square : goal.returns-in-Square
returns-in-Square c =
    let s = c.args.text.now in
    let at = c.args.at in
    let hk : kind_of (byte_at s at) ≡ c.kind_at.result = sym c.kind_at.ensures in
    sym (no_token s at c.kind_at.result c.in-Square.in-Square-own.keys7) ∙ token_ends s at c.kind_at.result hk
