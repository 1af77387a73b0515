-- Demand 3's facts from any sound table on, of the model's server. Assumes nothing.
use Prim.Native.Nat.{ℕ}
use mathlib.Core.Path.{◌≡◌, refl, sym, ap, ◌∙◌, subst}
use mathlib.Core.Bool.{true, false}
use mathlib.Core.Logic.{⊎_elim}
use mathlib.Core.List.Permᴰ
use mathlib.Core.List.{List}
use lib.ListN.{length}
use Rattle.model.specs.Table.{Table, read_table, size_of}
use Rattle.model.specs.Rules.{holdings}
use Rattle.model.specs.Sound.{SoundBytes}
use Rattle.model.specs.Calls.{table_length}
use Rattle.model.specs.Meets.{model}
use Rattle.model.proofs.RoundTrip.{table-back}
use Rattle.model.proofs.TableLaws.{length-table}
use Rattle.claims.specs.Tally.{Tally}
use Rattle.claims.specs.Demand3.{Agrees}
use Rattle.claims.specs.AnySound.{AnySound, tally_of}
use Rattle.claims.proofs.Demand3.Permutations.{perm-alike}
use Rattle.claims.proofs.Demand3.CallSteps.{Invariant}
use Rattle.claims.proofs.Demand3.{along}
use Rattle.claims.proofs.Refusals.HeaderReading.{not-laid}
use Rattle.model.proofs.ListLaws.{test}

size-of : (b : List ℕ) (s : SoundBytes b) → size_of s.table.layout (length s.table.slots) ≡ length b
size-of b s = sym (length-table s.table s.sound.lines s.fits) ∙ ap length s.bytes

kept : (b : List ℕ) (y : Tally) → Agrees b y → Invariant (length b) b y
kept b y g =
    record {
      table = g.stored.table;
      bytes = g.stored.bytes;
      related =
          record {
            cycle = g.cycle;
            place = g.place;
            running = g.running;
            n = g.n;
            roster = g.roster;
            entries = λ p. perm-alike g.entries p;
            sound = g.stored.sound;
            fits = g.stored.fits;
          };
      room = ap (size_of g.stored.table.layout) (sym g.n) ∙ size-of b g.stored;
    }

right-length : (b : List ℕ) → SoundBytes b → table_length (length b) ≡ true
right-length b s =
    ⊎_elim
    (λ (e : table_length (length b) ≡ true). e)
    (λ (e : table_length (length b) ≡ false).
    absurd (not-laid (length b) e (length s.table.slots) s.sound.slots_min s.sound.slots_max s.table.layout (sym (size-of b s))))
    (test (table_length (length b)))

pub any-sound : AnySound model
any-sound =
    record {
      along = λ b y es g ranges trace. along (length b) b y es (right-length b g.stored) ranges (kept b y g) trace;
      agrees = λ b s.
          let e : read_table b ≡ s.table = subst (λ (x : List ℕ). read_table x ≡ s.table) s.bytes (table-back s.table s.sound.lines s.fits) in
          subst (λ (t : Table). Agrees b (tally_of t)) (sym e)
          (record { stored = s; cycle = refl; place = refl; running = refl; n = refl; roster = refl; entries = Permᴰ.refl (holdings s.table) });
    }
