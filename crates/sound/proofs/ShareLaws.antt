-- One entry more in the walk over a table of few slots: it meets the rules of holders, and takes a slot that its share reserves or one beyond. Assumes nothing.
use Prim.Native.Nat.{ℕ, ◌+◌, ◌*◌, ◌≤◌, ◌<◌}
use Rattle.std.specs.Prelude.{Some, None}
use native.Mathlib.Omega.{arith}
use mathlib.Core.Path.{◌≡◌, refl, sym}
use mathlib.Core.Bool.{Bool, true, false, not, cond, ◌&&◌, and-false}
use mathlib.Core.List.{List}
use lib.ListN.{get_or}
use lib.Dec.{leb}
use mir.Val.{bool_byte}
use borrow.Author.Tests.{leb-true, leb-false, le-leb, lt-leb}
use Rattle.model.specs.Lists.{bit, count, any, every, no_two}
use Rattle.model.specs.Table.{Line}
use Rattle.model.specs.Rules.{numbered, held_by, limit_of, share_of, reserve}
use Rattle.model.specs.Sound.{valid_line, same_address, same_number, same_question}
use Rattle.layout.specs.Shape.{in_use}
use Rattle.layout.specs.Held.{holding_at, held_to}
use Rattle.layout.proofs.LineLaws.{share-limit}
use Rattle.layout.proofs.ReserveLaws.{reserve-held}
use Rattle.sound.specs.Holders.{holder_sound, holders_sound, beyond_share, entry_beyond_share, entries_sound}
use Rattle.sound.proofs.HolderLaws.{numbers-yes, numbers-no, holder-yes, holder-no}

-- what an entry takes beyond its share
taken : (x : Bool) → bool_byte x ≡ bit x
taken true = refl
taken false = refl

pub one-slot : (x : Bool) → bool_byte x ≤ 1
one-slot true = omega arith
one-slot false = omega arith

-- an address of share s and limit m that holds c
module _ (s m c : ℕ) (l : s ≤ m) where
  room : (x : Bool) → Some x ≡ beyond_share s m c → (leb (c + 1) m ≡ true) × (x ≡ leb s c)
  room x e = go (leb (c + 1) s) refl (leb (c + 1) m) refl e
    where
      go : (u : Bool) → leb (c + 1) s ≡ u → (v : Bool) → leb (c + 1) m ≡ v → Some x ≡ cond u (Some false) (cond v (Some true) None) → (leb (c + 1) m ≡ true) × (x ≡ leb s c)
      go true p v q f =
          let k : c + 1 ≤ s = leb-true (c + 1) s p in
          let w = lt-leb s c (omega arith) in
          (le-leb (c + 1) m (omega arith), cc)
      go false p true q f =
          let w = le-leb s c (omega (arith, leb-false (c + 1) s p)) in
          (q, cc)
      go false p false q f = cc

  no_room_lem : None ≡ beyond_share s m c → leb (c + 1) m ≡ false
  no_room_lem e = go (leb (c + 1) s) (leb (c + 1) m) refl e
    where
      go : (u v : Bool) → leb (c + 1) m ≡ v → None ≡ cond u (Some false) (cond v (Some true) None) → leb (c + 1) m ≡ false
      go true v q f = cc
      go false true q f = cc
      go false false q f = q

  -- p: no entry before has its number; q: none has its address and question
  fit : (x p q : Bool) → Some x ≡ cond (p && q) (beyond_share s m c) None → (p ≡ true) × (q && leb (c + 1) m ≡ true) × (x ≡ leb s c)
  fit x true true e = let r = room x e in (refl, r.0, r.1)
  fit x true false e = cc
  fit x false q e = cc

  no-fit : (p q : Bool) → None ≡ cond (p && q) (beyond_share s m c) None → p && (q && leb (c + 1) m) ≡ false
  no-fit true true e = no_room_lem e
  no-fit true false e = refl
  no-fit false q e = refl

-- slot i has an entry
module _ (b : List ℕ) (i : ℕ) (held : in_use (get_or b (320 * i) 0) ≡ true) (ls : List Line) (valid : every valid_line ls ≡ true) where
  -- which takes a slot beyond its share, or does not
  pub beyond-yes : (k : ℕ) (x : Bool) → Some x ≡ entry_beyond_share b ls i (holding_at 0 b (320 * i)) → no_two same_address ls ≡ true → no_two same_number (held_to 0 b i) ≡ true
      → holders_sound b ls i ≡ true → k ≡ reserve ls (count (held_to 0 b i)) + count (held_to 0 b i) any
      → (no_two same_number (held_to 0 b (i + 1)) ≡ true) × (holders_sound b ls (i + 1) ≡ true) × (k + bool_byte x ≡ reserve ls (count (held_to 0 b (i + 1))) + count (held_to 0 b (i + 1)) any)
  beyond-yes k x e apart n f r =
      let z = holding_at 0 b (320 * i) in
      let w =
      fit (share_of ls z.address) (limit_of ls z.address) (count (held_to 0 b i) (held_by z.address)) (share-limit ls z.address valid)
      x (every (λ g. not (numbered z.number g)) (held_to 0 b i)) (every (λ g. not (same_question g z)) (held_to 0 b i)) e
      in
      (numbers-yes b i held z.number refl w.0 n, holder-yes b i held ls w.1 f, rw (r, taken x, w.2) (sym (reserve-held 0 b ls i held apart)))

  -- for which there is no slot
  pub beyond-no : (n : ℕ) → i < n → None ≡ entry_beyond_share b ls i (holding_at 0 b (320 * i)) → entries_sound b ls n ≡ false
  beyond-no n l e =
      let z = holding_at 0 b (320 * i) in
      let p = every (λ g. not (numbered z.number g)) (held_to 0 b i) in
      go p refl
      (no-fit (share_of ls z.address) (limit_of ls z.address) (count (held_to 0 b i) (held_by z.address)) (share-limit ls z.address valid)
      p (every (λ g. not (same_question g z)) (held_to 0 b i)) e)
    where
      go : (v : Bool) → every (λ g. not (numbered (holding_at 0 b (320 * i)).number g)) (held_to 0 b i) ≡ v → v && holder_sound b ls i (holding_at 0 b (320 * i)) ≡ false
          → entries_sound b ls n ≡ false
      go true p f = rw (holder-no b i held ls n l f, and-false)
      go false p f = rw (numbers-no b i held (holding_at 0 b (320 * i)).number refl n l p)
