-- Two entries as the passes over pairs test them: the number; the address, then what is asked. Assumes nothing.
use Prim.Native.Nat.{ℕ}
use mathlib.Core.Path.{◌≡◌, refl, sym, ap, ◌∙◌}
use mathlib.Core.Bool.{Bool, true, false, not, cond, ◌&&◌, and_assoc}
use mathlib.Core.List.{List}
use lib.Dec.{eqb}
use Rattle.model.specs.Lists.{same, every}
use Rattle.model.specs.Rules.{Holding, numbered, held_by}
use Rattle.model.specs.Sound.{same_question}
use Rattle.model.proofs.ListLaws.{and_left, none_of}
use Rattle.record.specs.Asked.{same_asked}

-- u: the slot is in use; v: its entry passes
pub unless : (u v : Bool) → cond u (not v) true ≡ not (u && v)
unless true v = refl
unless false v = refl

-- u: the slot of h is in use
module _ (u : Bool) (h : Holding) (x : ℕ) where
  pub same_number : u && numbered x h ≡ true → cond u (not (numbered x h)) true ≡ false
  same_number e = unless u (numbered x h) ∙ ap not e

  pub other-number : u && numbered x h ≡ false → cond u (not (numbered x h)) true ≡ true
  other-number e = unless u (numbered x h) ∙ ap not e

question-is : (h k : Holding) → same_question h k ≡ eqb h.address k.address && same_asked h k
question-is h k = go (eqb h.address k.address)
  where
    go : (v : Bool) → v && eqb h.port k.port && eqb h.qtype k.qtype && eqb h.qclass k.qclass && same h.name k.name
        ≡ v && same_asked h k
    go true = refl
    go false = refl

-- u: the slot of h is in use; a is the address of k
module _ (u : Bool) (h k : Holding) (a : ℕ) (address : k.address ≡ a) where
  asked : cond u (not (same_question h k)) true ≡ not (u && held_by a h && same_asked h k)
  asked = rw (question-is h k, address) (unless u (held_by a h && same_asked h k) ∙ ap not (sym (and_assoc u (held_by a h) (same_asked h k))))

  pub same_asked_lem : u && held_by a h ≡ true → same_asked h k ≡ true → cond u (not (same_question h k)) true ≡ false
  same_asked_lem e s = asked ∙ (rw (e, s))

  pub other-asked : u && held_by a h ≡ true → same_asked h k ≡ false → cond u (not (same_question h k)) true ≡ true
  other-asked e s = asked ∙ (rw (e, s))

  pub other-holder : u && held_by a h ≡ false → cond u (not (same_question h k)) true ≡ true
  other-holder e = asked ∙ (rw e)

-- none of the address, none of the address and question
pub none-asks : (k : Holding) (l : List Holding) → every (λ h. not (held_by k.address h)) l ≡ true → every (λ h. not (same_question h k)) l ≡ true
none-asks k l e = none_of (held_by k.address) (λ h. same_question h k) l e (λ h e. and_left (held_by k.address h) (same_asked h k) (sym (question-is h k) ∙ e))
