-- The laws of Answers: the sum byte by byte, a reply buffer filled, and how many bytes answers take. Assumes nothing.
use Rattle.std.proofs.Common.{Some}
use Prim.Native.Nat.{ℕ, ◌+◌, ◌*◌, ◌%◌, ◌≤◌, ◌<◌}
use native.Mathlib.Numerals.{add-one}
use native.Mathlib.Omega.{arith}
use mathlib.Core.Path.{◌≡◌, refl}
use mathlib.Core.List.{List, [], ◌∷◌, ◌++◌}
use lib.ListN.{length, drop, get_or, drop_of_length-le}
use lib.Seq.{drop-cons}
use Rattle.claims.specs.Tally.{Call, making, ticking, serving}
use Rattle.script.specs.Spelled.{room_at, next_at, making_at, ticking_at, serving_at, call_at, calls_from, calls_in}
use Rattle.script.specs.declared.Call as kind
use Rattle.script.specs.declared.Call.TheVariants.{Make, Tick, Serve}
use Rattle.script.specs.Calls.{spelled_as}
use Rattle.script.proofs.SpelledLaws.{Passed, passed-next}
use Rattle.script.specs.Answers.{sum_from, answer_length, answers_length}

-- one byte more
pub sum-next : (t : List ℕ) (c i x : ℕ) → i < length t → sum_from c (drop i t) ≡ x → sum_from ((c * 257 + get_or t i 0) % 4294967291) (drop (i + 1) t) ≡ x
unfolding sum_from
sum-next t c i x h e = rw add-one (rw (drop-cons t i 0 h) at e)

-- all of them
pub sum-all : (t : List ℕ) (c i x : ℕ) → length t ≤ i → sum_from c (drop i t) ≡ x → c ≡ x
unfolding sum_from
sum-all t c i x h e = rw (drop_of_length-le t h) at e

pub answers-both : (cs ds : List Call) → answers_length (cs ++ ds) ≡ answers_length cs + answers_length ds
unfolding answers_length
answers-both [] ds = omega arith
answers-both (c ∷ cs) ds = rw (answers-both cs ds) (omega arith)

pub answers_one : (c : Call) → answers_length (c ∷ []) ≡ answer_length c
unfolding answers_length
answers_one c = omega arith

pub answers-none : answers_length [] ≡ 0
unfolding answers_length
answers-none = refl

-- of a record's call
module _ (s : List ℕ) (at : ℕ) where
  pub length-made : call_at s at ≡ making (making_at s at) ∷ [] → answers_length (call_at s at) ≡ 12
  length-made e = rw (e, answers_one)

  pub length-ticked : call_at s at ≡ ticking (ticking_at s at) ∷ [] → answers_length (call_at s at) ≡ 12
  length-ticked e = rw (e, answers_one)

  pub length-served : call_at s at ≡ serving (serving_at s at) ∷ [] → answers_length (call_at s at) ≡ 12 + room_at s at
  length-served e = rw (e, answers_one)

  -- whichever it is, it has the numbers
  pub has-numbers : (call : kind.Call) → call_at s at ≡ spelled_as (Some call) s at → 12 ≤ answers_length (call_at s at)
  has-numbers Make e = rw (length-made e) (omega arith)
  has-numbers Tick e = rw (length-ticked e) (omega arith)
  has-numbers Serve e = rw (length-served e) (omega arith)

-- the answers of the calls done and of the next, found at index i of the list u, take no more than all
pub passed-room : (s : List ℕ) (at : ℕ) (done : List Call) (u : List ℕ) (i : ℕ) → Passed s at done → (u ≡ s) × (i ≡ at) → next_at u i ≤ length u
    → answers_length done + answers_length (call_at u i) ≤ answers_length (calls_in s)
passed-room s at done u i p e h =
    let q = passed-next s at done u i p e h in
    rw (q.calls, answers-both (done ++ call_at u i) (calls_from q.left s (next_at u i)), answers-both done (call_at u i)) (omega arith)
