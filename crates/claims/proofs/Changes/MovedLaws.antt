-- The clock moved and run-out entries freed: what the model does to each slot. Assumes nothing.
use Prim.Native.Nat.{ℕ, zero, suc}
use mathlib.Core.Path.{◌≡◌, refl, ◌∙◌}
use mathlib.Core.Bool.{Bool, true, false, cond}
use mathlib.Core.List.{List, [], ◌∷◌, map}
use lib.ListN.{get_or}
use lib.Dec.{leb}
use borrow.Author.Tests.{leb-true, le-leb}
use Rattle.model.specs.Clock.{advance, age_at}
use Rattle.model.specs.Table.{Entry, Slot, free, held, Table, cycle_in}
use Rattle.model.specs.Serve.{slot_run_out, free_if_run_out, moved_on, slot_of}
use Rattle.model.proofs.ListLaws.{length-map}
use Rattle.claims.specs.Changes.{RunOut, Moved}

module _ (r : ℕ) where
  slot-freed : (s : List Slot) (j : ℕ) → get_or (map (free_if_run_out r) s) j free ≡ free_if_run_out r (get_or s j free)
  unfolding slot_run_out
  slot-freed [] j = refl
  slot-freed (x ∷ s) zero = refl
  slot-freed (x ∷ s) (suc j) = slot-freed s j

  stays-free : (z : Slot) → z ≡ free → free_if_run_out r z ≡ free
  unfolding slot_run_out
  stays-free z h = rw h

  stays-held : (z : Slot) (e : Entry) → z ≡ held e → (RunOut r e → ⊥) → free_if_run_out r z ≡ held e
  unfolding slot_run_out
  stays-held z e h n = rw h (go (leb e.lease (age_at r e.stamp)) refl)
    where
      go : (v : Bool) → leb e.lease (age_at r e.stamp) ≡ v → cond v free (held e) ≡ held e
      go true b = absurd (n (leb-true e.lease (age_at r e.stamp) b))
      go false b = refl

  gets-free : (z : Slot) (e : Entry) → z ≡ held e → RunOut r e → free_if_run_out r z ≡ free
  unfolding slot_run_out
  gets-free z e h n = let b : leb e.lease (age_at r e.stamp) ≡ true = le-leb e.lease (age_at r e.stamp) n in rw (h, b)

pub moved_on_lem : (t : Table) (place : ℕ) → Moved place t (moved_on t place)
unfolding moved_on
moved_on_lem t place =
    let r = (advance (cycle_in t) t.clock place).running in
    record {
      layout = refl;
      clock = refl;
      roster = refl;
      size = length-map (free_if_run_out r) t.slots;
      was_free = λ j h. slot-freed r t.slots j ∙ stays-free r (slot_of t j) h;
      kept = λ j e h n. slot-freed r t.slots j ∙ stays-held r (slot_of t j) e h n;
      freed = λ j e h n. slot-freed r t.slots j ∙ gets-free r (slot_of t j) e h n;
    }
