-- The laws of Spelled: a record's call by its kind, the records passed and those left, and the ranges of what bytes spell. Assumes nothing.
use Rattle.std.proofs.Common.{Some}
use Prim.Native.Nat.{ℕ, zero, suc, ◌+◌, ◌-◌, ◌*◌, ◌^◌, ◌≤◌, ◌<◌}
use native.Mathlib.Omega.{arith}
use mathlib.Core.Path.{◌≡◌, refl, sym, ap, ◌∙◌, subst}
use mathlib.Core.Bool.{true, false}
use mathlib.Core.List.{List, [], ◌∷◌, ◌++◌, append_assoc, append-nil, map}
use lib.ListN.{length, take, drop}
use lib.Dec.{eqb, leb}
use borrow.Author.Tests.{le-leb, lt-leb}
use Rattle.model.specs.Numbers.{Bytes, big_endian, part}
use Rattle.model.proofs.ListLaws.{either}
use Rattle.model.specs.Calls.{ServeCall}
use Rattle.model.proofs.NumberLaws.{big_lt, big-add, bytes-part}
use Rattle.claims.specs.Tally.{Call}
use Rattle.claims.specs.Events.{Event, call_of, InRange, AllInRange}
use Rattle.script.specs.declared.Call as kind
use Rattle.script.specs.Calls.{spelled_as}
use Rattle.script.specs.Pin.{pinned, pinned_calls, SpelledOut}
use Rattle.script.specs.Spelled.{kind_at, week_at, second_at, address_at, port_at, random_at, room_at, size_at, body_at, next_at, serving_at, call_at, calls_from, calls_in}

-- THE CALL of a record, by the call that it is found to be
pub spelled-by : (s : List ℕ) (at : ℕ) (call k : kind.Call) → call_at s at ≡ spelled_as (Some call) s at → call ≡ k → call_at s at ≡ spelled_as (Some k) s at
spelled-by s at call k e f = e ∙ ap (λ (j : kind.Call). spelled_as (Some j) s at) f

-- ITS ARGUMENTS as the code reads them: e is the record's end
module _ (s : List ℕ) (at : ℕ) where
  pub body-read : (e : ℕ) → e ≡ next_at s at → take (e - (at + 39)) (drop (at + 39) s) ≡ body_at s at
  unfolding part
  body-read e p = let d : e - (at + 39) ≡ size_at s at = omega arith in rw d

  -- an address is its two halves
  address_read : (h l : ℕ) → h ≡ big_endian s (at + 9) 8 → l ≡ big_endian s (at + 17) 8 → h * 2 ^ 64 + l ≡ address_at s at
  address_read h l p q = let d : at + 17 ≡ at + 9 + 8 = omega arith in rw (p, q, d) (sym (big-add s (at + 9) 8 8))

  pub serve-read : (w x h l p r n : ℕ) (b : List ℕ) → w ≡ week_at s at → x ≡ second_at s at → h ≡ big_endian s (at + 9) 8 → l ≡ big_endian s (at + 17) 8
      → p ≡ port_at s at → r ≡ random_at s at → b ≡ body_at s at → n ≡ room_at s at
      → ◌≡◌ {A = ServeCall}
      (record { week = w; second = x; sender = record { address = h * 2 ^ 64 + l; port = p }; random = r; datagram = b; room = n })
      (serving_at s at)
  serve-read w x h l p r n b ew ex eh el ep er eb en = rw (eb, address_read h l eh el, ew, ex, ep, er, en)

-- THE RECORDS BEFORE INDEX at spell the calls done; those from there on, of which there are at most so many, spell the rest
pub record Passed (s : List ℕ) (at : ℕ) (done : List Call) : Type 0 where
  pub left : ℕ
  pub enough : length s ≤ at + left
  pub calls : calls_in s ≡ done ++ calls_from left s at

pub passed_none : (s : List ℕ) → Passed s 0 []
passed_none s = record { left = length s; enough = omega arith; calls = refl }

module _ (s : List ℕ) (at : ℕ) (done : List Call) where
  -- the record at index at is whole: it is next
  next-calls : (k : ℕ) → next_at s at ≤ length s → length s ≤ at + k → calls_in s ≡ done ++ calls_from k s at → Passed s (next_at s at) (done ++ call_at s at)
  unfolding calls_from
  next-calls zero h l e = absurd (omega arith)
  next-calls (suc k) h l e =
      let w : leb (next_at s at) (length s) ≡ true = le-leb (next_at s at) (length s) h in
      record {
        left = k;
        enough = omega arith;
        calls = (rw w at e) ∙ sym (append_assoc done (call_at s at) (calls_from k s (next_at s at)));
      }

  -- as it was found: at index i of the list u
  pub passed-next : (u : List ℕ) (i : ℕ) → Passed s at done → (u ≡ s) × (i ≡ at) → next_at u i ≤ length u → Passed s (next_at u i) (done ++ call_at u i)
  passed-next u i p e h = rw (e.0, e.1) (next-calls p.left (rw (e.0, e.1) at h) p.enough p.calls)

  -- it is not: these are all
  end-calls : (k : ℕ) → leb (next_at s at) (length s) ≡ false → calls_from k s at ≡ []
  unfolding calls_from
  end-calls zero w = refl
  end-calls (suc k) w = rw w

  pub passed-all : Passed s at done → (next_at s at ≤ length s → ⊥) → calls_in s ≡ done
  passed-all p h =
      let w : leb (next_at s at) (length s) ≡ false = lt-leb (next_at s at) (length s) (omega arith) in
      p.calls ∙ ap (λ (cs : List Call). done ++ cs) (end-calls p.left w) ∙ append-nil done

-- WHAT BYTES SPELL IS IN RANGE
abbrev pub AllSpelled : List Call → Type 0
AllSpelled [] = Unit {0}
AllSpelled (c ∷ cs) = InRange c × AllSpelled cs

spelled-both : (cs ds : List Call) → AllSpelled cs → AllSpelled ds → AllSpelled (cs ++ ds)
spelled-both [] ds p q = q
spelled-both (c ∷ cs) ds p q = (p.0, spelled-both cs ds p.1 q)

module _ (s : List ℕ) (bytes : Bytes s) where
  number : (at k : ℕ) → big_endian s at k < 256 ^ k
  number at k = big_lt s at k bytes

  body : (at : ℕ) → Bytes (part (at + 39) (size_at s at) s)
  body at = bytes-part (at + 39) (size_at s at) s bytes

  call-range : (at : ℕ) → AllSpelled (call_at s at)
  unfolding call_at
  call-range at =
      either AllSpelled (eqb (kind_at s at) 77) (record { week = number (at + 1) 4; second = number (at + 5) 4; roster = body at }, tt)
      (either AllSpelled (eqb (kind_at s at) 84) (record { week = number (at + 1) 4; second = number (at + 5) 4 }, tt)
      (either AllSpelled (eqb (kind_at s at) 83) (
        record {
          week = number (at + 1) 4;
          second = number (at + 5) 4;
          address = number (at + 9) 16;
          port = number (at + 25) 2;
          random = number (at + 27) 8;
          datagram = body at;
        },
        tt,
      )
      tt))

  pub calls-range : (k at : ℕ) → AllSpelled (calls_from k s at)
  unfolding calls_from
  calls-range zero at = tt
  calls-range (suc k) at =
      either AllSpelled (leb (next_at s at) (length s)) (spelled-both (call_at s at) (calls_from k s (next_at s at)) (call-range at) (calls-range k (next_at s at))) tt

spelled-range : (es : List Event) → AllSpelled (map call_of es) → AllInRange es
spelled-range [] p = tt
spelled-range (e ∷ es) p = (p.0, spelled-range es p.1)

-- the calls made are those that a script's bytes spell: they are in range
pub script-range : (s : List ℕ) → Bytes s → (es : List Event) → map call_of es ≡ calls_in s → AllInRange es
script-range s bytes es e = spelled-range es (subst AllSpelled (sym e) (calls-range s bytes (length s) 0))

-- A SCRIPT WRITTEN OUT spells its calls
pub spelled_out : SpelledOut
unfolding pinned pinned_calls calls_from call_at big_endian part
spelled_out = refl
