-- One line more: what a turn of a loop over roster lines, from any base, adds to each fold of them. Assumes nothing.
use Prim.Native.Nat.{ℕ, zero, suc, ◌+◌, ◌-◌, ◌≤◌, ◌<◌}
use native.Mathlib.Nat.{eq-or-lt_of_le}
use native.Mathlib.Numerals.{add-one}
use native.Mathlib.Omega.{arith}
use mathlib.Core.Path.{◌≡◌, refl, sym, ap, ◌∙◌}
use mathlib.Core.Bool.{Bool, true, false, not, cond, ◌&&◌}
use mathlib.Core.List.{List, [], ◌∷◌, ◌++◌, append-nil}
use mathlib.Core.Logic.{⊎_elim}
use lib.Dec.{eqb, leb}
use borrow.Author.Tests.{leb-true}
use Rattle.model.specs.Lists.{every, no_two, up_to}
use Rattle.model.specs.Table.{Line}
use Rattle.model.specs.Rules.{held_by, limit_of, share_of, reserve, Counts, shares}
use Rattle.model.specs.Sound.{valid_line}
use Rattle.model.proofs.ListLaws.{and_left, and_right, up_to-next, every-next, no_two-next}
use Rattle.layout.proofs.HeldLaws.{grows-no}

-- FOLDS OF LINES

reserve-append : (l m : List Line) (c : Counts) → reserve (l ++ m) c ≡ reserve l c + reserve m c
unfolding reserve
reserve-append [] m c = omega arith
reserve-append (x ∷ l) m c = omega (arith, reserve-append l m c)

shares-append : (l m : List Line) → shares (l ++ m) ≡ shares l + shares m
unfolding shares
shares-append [] m = omega arith
shares-append (x ∷ l) m = omega (arith, shares-append l m)

-- no line of the list has the address
abbrev pub unlisted : List Line → ℕ → Bool
unlisted ls a = every (λ x. not (eqb x.address a)) ls

-- the first line of an address decides
module _ (a : ℕ) (key : Line → ℕ) (look : List Line → ℕ) (next : (x : Line) (l : List Line) → look (x ∷ l) ≡ cond (eqb x.address a) (key x) (look l)) where
  look-append : (l m : List Line) → look (l ++ m) ≡ cond (unlisted l a) (look m) (look l)
  unfolding every
  look-append [] m = refl
  look-append (x ∷ l) m = next x (l ++ m) ∙ go (eqb x.address a) (look-append l m) ∙ ap (λ (z : ℕ). cond (not (eqb x.address a) && unlisted l a) (look m) z) (sym (next x l))
    where
      go : (v : Bool) → look (l ++ m) ≡ cond (unlisted l a) (look m) (look l)
          → cond v (key x) (look (l ++ m)) ≡ cond (not v && unlisted l a) (look m) (cond v (key x) (look l))
      go true e = refl
      go false e = e

  look_none : (l : List Line) → unlisted l a ≡ true → look l ≡ look []
  look_none l h = ap look (sym (append-nil l)) ∙ look-append l [] ∙ rw h

  module _ (f : ℕ → Line) where
    unlisted-next : (i : ℕ) → unlisted (up_to (i + 1) f) a ≡ unlisted (up_to i f) a && not (eqb (f i).address a)
    unlisted-next i = every-next i f (λ x. not (eqb x.address a))

    look_hit : (m i : ℕ) → i < m → unlisted (up_to i f) a ≡ true → eqb (f i).address a ≡ true → look (up_to m f) ≡ key (f i)
    look_hit zero i l h e = absurd (omega arith)
    look_hit (suc m) i l h e =
        ⊎_elim
        (λ (q : i ≡ m). rw (← add-one m, up_to-next m f, look-append, ← q, h, next, e))
        (λ (q : i < m).
        let no : unlisted (up_to m f) a ≡ false = grows-no (λ j. unlisted (up_to j f) a) (λ j. not (eqb (f j).address a)) unlisted-next m i q (rw e) in
        rw (← add-one m, up_to-next m f, look-append, no) (look_hit m i q h e))
        (let q : i ≤ m = omega arith in eq-or-lt_of_le q)

limit-cons : (a : ℕ) (x : Line) (l : List Line) → limit_of (x ∷ l) a ≡ cond (eqb x.address a) x.limit (limit_of l a)
unfolding limit_of
limit-cons a x l = refl

share-cons : (a : ℕ) (x : Line) (l : List Line) → share_of (x ∷ l) a ≡ cond (eqb x.address a) x.share (share_of l a)
unfolding share_of
share-cons a x l = refl

pub limit-none : (l : List Line) (a : ℕ) → unlisted l a ≡ true → limit_of l a ≡ 4
unfolding limit_of
limit-none l a h = look_none a (λ x. x.limit) (λ ls. limit_of ls a) (limit-cons a) l h

pub share-none : (l : List Line) (a : ℕ) → unlisted l a ≡ true → share_of l a ≡ 0
unfolding share_of
share-none l a h = look_none a (λ x. x.share) (λ ls. share_of ls a) (share-cons a) l h

-- by the line rules a limit is 1 or more
pub limit-min : (l : List Line) (a : ℕ) → every valid_line l ≡ true → 1 ≤ limit_of l a
unfolding limit_of every
limit-min [] a h = omega arith
limit-min (x ∷ l) a h = go (eqb x.address a) (limit-min l a (and_right (valid_line x) (every valid_line l) h))
  where
    one : 1 ≤ x.limit
    one =
        let s = leb x.share x.limit in
        let m = leb 1 x.limit in
        leb-true 1 x.limit (and_right s m (and_left (s && m) (leb x.limit 64) (and_left (valid_line x) (every valid_line l) h)))

    go : (v : Bool) → 1 ≤ limit_of l a → 1 ≤ cond v x.limit (limit_of l a)
    go true r = one
    go false r = r

-- and a share no more than the limit
pub share-limit : (l : List Line) (a : ℕ) → every valid_line l ≡ true → share_of l a ≤ limit_of l a
unfolding limit_of share_of every
share-limit [] a h = omega arith
share-limit (x ∷ l) a h = go (eqb x.address a) (share-limit l a (and_right (valid_line x) (every valid_line l) h))
  where
    own : x.share ≤ x.limit
    own =
        let s = leb x.share x.limit in
        let m = leb 1 x.limit in
        leb-true x.share x.limit (and_left s m (and_left (s && m) (leb x.limit 64) (and_left (valid_line x) (every valid_line l) h)))

    go : (v : Bool) → share_of l a ≤ limit_of l a → cond v x.share (share_of l a) ≤ cond v x.limit (limit_of l a)
    go true r = own
    go false r = r

-- A LINE MORE, f i being line i

module _ (f : ℕ → Line) where
  pub reserve-next : (i : ℕ) (c : Counts) → reserve (up_to (i + 1) f) c ≡ reserve (up_to i f) c + ((f i).share - c (held_by (f i).address))
  unfolding reserve
  reserve-next i c = rw (up_to-next i f, reserve-append) (omega arith)

  pub shares-next : (i : ℕ) → shares (up_to (i + 1) f) ≡ shares (up_to i f) + (f i).share
  unfolding shares
  shares-next i = rw (up_to-next i f, shares-append) (omega arith)

  module _ (a : ℕ) where
    pub limit-hit : (m i : ℕ) → i < m → unlisted (up_to i f) a ≡ true → eqb (f i).address a ≡ true → limit_of (up_to m f) a ≡ (f i).limit
    limit-hit m i = look_hit a (λ x. x.limit) (λ ls. limit_of ls a) (limit-cons a) f m i

    pub share-hit : (m i : ℕ) → i < m → unlisted (up_to i f) a ≡ true → eqb (f i).address a ≡ true → share_of (up_to m f) a ≡ (f i).share
    share-hit m i = look_hit a (λ x. x.share) (λ ls. share_of ls a) (share-cons a) f m i

  module _ (p : Line → Bool) where
    pub lines-yes : (i : ℕ) → p (f i) ≡ true → every p (up_to i f) ≡ true → every p (up_to (i + 1) f) ≡ true
    lines-yes i h e = rw (every-next i f p, e, h)

    pub lines-no : (m i : ℕ) → i < m → p (f i) ≡ false → every p (up_to m f) ≡ false
    lines-no m i l h = grows-no (λ j. every p (up_to j f)) (λ j. p (f j)) (λ j. every-next j f p) m i l h

  module _ (q : Line → Line → Bool) where
    pub pairs-yes : (i : ℕ) → every (λ l. not (q l (f i))) (up_to i f) ≡ true → no_two q (up_to i f) ≡ true → no_two q (up_to (i + 1) f) ≡ true
    pairs-yes i h e = rw (no_two-next i f q, e, h)

    pub pairs-no : (m i : ℕ) → i < m → every (λ l. not (q l (f i))) (up_to i f) ≡ false → no_two q (up_to m f) ≡ false
    pairs-no m i l h = grows-no (λ j. no_two q (up_to j f)) (λ j. every (λ l. not (q l (f j))) (up_to j f)) (λ j. no_two-next j f q) m i l h
