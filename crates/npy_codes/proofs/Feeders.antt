-- The numbers of a feeder say what the feeder says: decoding gives back what was encoded, so that a call in C goes on where the last one ended. And twenty zeros are a feeder that has taken nothing.
use Prim.Native.Nat.{ℕ, ◌+◌}
use native.Mathlib.Omega.{arith}
use mathlib.Core.Path.{◌≡◌, refl, sym, ap, ◌∙◌}
use mathlib.Core.List.{List, [], ◌∷◌, ◌++◌}
use mathlib.Core.Bool.{true, false}
use lib.ListN.{length, get_or, replicate}
use lib.Seq.{get_or-append-add, take_at}
use Rattle.counts.specs.Lists.{AllBytes}
use Rattle.counts.specs.Outcome.{Outcome, gives, refused, each}
use Rattle.counts.proofs.Alike.{true_false}
use Rattle.refusal.specs.declared.Refusal.{Refusal}
use Rattle.refusal.specs.Numbers.{number_of}
use Rattle.record.specs.Prefix.{Version, one_zero, two_zero, three_zero, major, version_of}
use Rattle.dtype.specs.declared.Order.{Order}
use Rattle.dtype.specs.declared.Order.TheVariants.{C, Fortran}
use Rattle.header.specs.Reads.{HeaderInfo}
use Rattle.header_feed.specs.declared.Fed.{Fed}
use Rattle.header_feed.specs.declared.Feeder.{Feeder}
use Rattle.header_feed.specs.Feeds.{need_more, outcome, progress, fresh_feeder}
use Rattle.npy_codes.specs.Codes.{order_number, order_for}
use Rattle.npy_codes.specs.Feeders.{saying_numbers, feeder_numbers, low_bytes, head_for, taken_for, saying}
use Rattle.refusal.specs.Numbers.{is_refusal}
use Rattle.npy_codes.proofs.FeederNumbers.{header_at_lem, says_more, says_header, says_refusal}

-- ---- what is said
pub refusal_known : (why : Refusal) → is_refusal (number_of why) ≡ true
refusal_known Refusal.NotNpy = refl
refusal_known Refusal.OtherVersion = refl
refusal_known Refusal.Incomplete = refl
refusal_known Refusal.LongText = refl
refusal_known Refusal.NotUtf8 = refl
refusal_known Refusal.Fault = refl
refusal_known Refusal.Depth = refl
refusal_known Refusal.NotDict = refl
refusal_known Refusal.NoKey = refl
refusal_known Refusal.NotBoolean = refl
refusal_known Refusal.NotShape = refl
refusal_known Refusal.LargeDimension = refl
refusal_known Refusal.Dimensions = refl
refusal_known Refusal.Form = refl
refusal_known Refusal.Syntax = refl
refusal_known Refusal.LargeNumber = refl
refusal_known Refusal.TypeOrder = refl
refusal_known Refusal.TypeSize = refl
refusal_known Refusal.Units = refl
refusal_known Refusal.Entries = refl
refusal_known Refusal.Size = refl
refusal_known Refusal.Shape = refl
refusal_known Refusal.Room = refl
refusal_known Refusal.HasObject = refl
refusal_known Refusal.ShortFile = refl
refusal_known Refusal.Nowhere = refl
refusal_known Refusal.NoReading = refl
refusal_known Refusal.OutputRoom = refl
refusal_known Refusal.Scalar = refl
refusal_known Refusal.Misfit = refl
refusal_known Refusal.NoValue = refl
refusal_known Refusal.BoolByte = refl
refusal_known Refusal.Buffer = refl

version_again : (v : Version) → gives v ≡ version_of (major v) 0
version_again one_zero = refl
version_again two_zero = refl
version_again three_zero = refl

order_again : (o : Order) → gives o ≡ order_for (order_number o)
order_again C = refl
order_again Fortran = refl

no_refusal : (n k : ℕ) → is_refusal n ≡ true → is_refusal k ≡ false → n ≡ k → ⊥
no_refusal n k a b e = let z : true ≡ false = sym a ∙ ap is_refusal e ∙ b in true_false z

module _ (head : List ℕ) (taken : ℕ) (twelve : length head ≡ 12) where
  -- the numbers after the head
  at : (x : List ℕ) (i : ℕ) → get_or (head ++ x) (12 + i) 0 ≡ get_or x i 0
  at x i = rw twelve at (get_or-append-add head x i 0)

  header_said : (h : HeaderInfo) → saying (head ++ taken ∷ saying_numbers (outcome (gives h))) ≡ gives (outcome (gives h))
  header_said h =
      let ns = head ++ taken ∷ saying_numbers (outcome (gives h)) in
      let s = taken ∷ saying_numbers (outcome (gives h)) in
      says_header ns (at s 1) ∙ ap (each (λ x. outcome (gives x)))
      (header_at_lem ns h.version h.info.order (version_again h.version ∙ ap (λ (n : ℕ). version_of n 0) (sym (at s 2))) (order_again h.info.order ∙ ap order_for (sym (at s 3)))
      ∙ values h.version h.info.order (at s 4) (at s 5) (at s 6) (at s 7))
    where
      values : (v : Version) (o : Order) {a a' b b' c c' d d' : ℕ} → a ≡ a' → b ≡ b' → c ≡ c' → d ≡ d'
          → ◌≡◌ {A = Outcome HeaderInfo} (gives (record { version = v; info = record { order = o; rank = a; entries = b; names = c }; data_start = d })) (gives (record { version = v; info = record { order = o; rank = a'; entries = b'; names = c' }; data_start = d' }))
      values v o p q r s = cc

  said_again : (s : Fed) → saying (head ++ taken ∷ saying_numbers (progress s)) ≡ gives (progress s)
  said_again Fed.More = says_more (head ++ taken ∷ saying_numbers need_more) (at (taken ∷ saying_numbers need_more) 1)
  said_again (Fed.Read h) = header_said _
  said_again (Fed.Refused why) =
      let s = taken ∷ saying_numbers (outcome (refused (number_of why))) in
      let e : get_or (head ++ s) 13 0 ≡ number_of why = at s 1 in
      let k : is_refusal (get_or (head ++ s) 13 0) ≡ true = ap is_refusal e ∙ refusal_known why in
      says_refusal (head ++ s) (no_refusal _ 0 k refl) (no_refusal _ 255 k refl) k ∙ ap (λ (n : ℕ). gives (outcome (refused n))) e

low_same : (bytes : List ℕ) → AllBytes bytes → low_bytes bytes ≡ bytes
low_same [] b = refl
low_same (n ∷ ns) (b, bs) = both (omega (arith, b)) (low_same ns bs)
  where
    both : {m m' : ℕ} {l l' : List ℕ} → m ≡ m' → l ≡ l' → ◌≡◌ {A = List ℕ} (m ∷ l) (m' ∷ l')
    both p q = cc

-- ---- of every feeder with a head of twelve bytes
module _ (f : Feeder) (twelve : length f.head ≡ 12) where
  pub saying_back : saying (feeder_numbers f) ≡ gives (progress f.said)
  saying_back = said_again f.head f.taken twelve f.said

  pub taken_back : taken_for (feeder_numbers f) ≡ f.taken
  taken_back = at f.head f.taken twelve (f.taken ∷ saying_numbers (progress f.said)) 0

  pub head_back : AllBytes f.head → head_for (feeder_numbers f) ≡ f.head
  head_back bytes = ap low_bytes (take_at f.head (f.taken ∷ saying_numbers (progress f.said)) 12 twelve) ∙ low_same f.head bytes

-- ---- the start
pub zeros_need_more : saying (replicate 20 0) ≡ gives need_more
unfolding saying
zeros_need_more = refl

pub zeros_head : head_for (replicate 20 0) ≡ fresh_feeder.head
zeros_head = refl

pub zeros_taken : taken_for (replicate 20 0) ≡ 0
zeros_taken = refl
