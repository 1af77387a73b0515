-- Claim 3 of the model: a pending entry is established exactly when it should be. Assumes nothing.
use Prim.Native.Nat.{ℕ, zero, suc, ◌≤◌, ◌<◌}
use native.Mathlib.Nat.{eq-or-lt_of_le}
use native.Mathlib.Omega.{arith}
use mathlib.Core.Path.{◌≡◌, refl, sym, ap, ◌∙◌, subst}
use mathlib.Core.Bool.{true}
use mathlib.Core.List.{List}
use mathlib.Core.Logic.{◌≢◌, ⊎_elim}
use Rattle.model.specs.Clock.{Clock}
use Rattle.model.specs.Query.{question, llq_option}
use Rattle.model.specs.Table.{Entry, held, read_table}
use Rattle.model.specs.Serve.{slot_of, establish}
use Rattle.model.specs.Calls.{ServeCall, serve}
use Rattle.model.specs.Meets.{model}
use Rattle.model.proofs.ListLaws.{never}
use Rattle.claims.specs.Changes.{RunOut, RightRefresh, Datagram, done_options}
use Rattle.claims.specs.Established.{moved_count, ResponseTo, RefreshOf, FirstResponse, StillHeld, Pending, PendingAfter, EstablishedExactly}
use Rattle.claims.proofs.Changes.EntryAfter.{EntryAfter, stays, confirmed, renewed, ended, entry-after, clock-at}
use Rattle.claims.proofs.Changes.{datagram-done, read_left}

-- AN ENTRY PENDING BEFORE AN ANSWERED DATAGRAM, followed from option to option
module _ (c : ServeCall) (before after : List ℕ) (d : Datagram c before after) (j : ℕ) (e : Entry) (p : Pending c (read_table before) j e) where
  abbrev running : ℕ
  running = moved_count c (read_table before)

  -- the running count stays from option to option
  running-at : (m : ℕ) → m ≤ done_options c → (d.tables m).clock.running ≡ running
  running-at m h = ap (λ (k : Clock). k.running) (clock-at c before after d m h)

  -- what option m leaves of an entry in slot j
  after-at : (m : ℕ) (x : Entry) → m < done_options c → slot_of (d.tables m) j ≡ held x
      → EntryAfter c.sender (question c.datagram m) (llq_option c.datagram m) (d.tables m) (d.tables (suc m)) j x
  after-at m x h q =
      entry-after c.sender (question c.datagram m) (llq_option c.datagram m) (d.tables m) (d.tables (suc m)) (d.options m h).change j x q

  -- no right response yet: it is as it was
  untouched-to : (m : ℕ) → m ≤ done_options c → ((i : ℕ) → i < m → ResponseTo running c i e → ⊥) → slot_of (d.tables m) j ≡ held e
  untouched-to zero h none =
      d.moved.kept j e p.here (λ r. p.live (subst (λ (k : Clock). RunOut k.running e) d.moved.clock r))
  untouched-to (suc m) h none = go (after-at m e (omega arith) (untouched-to m (omega arith) (λ i l. none i (omega arith))))
    where
      go : EntryAfter c.sender (question c.datagram m) (llq_option c.datagram m) (d.tables m) (d.tables (suc m)) j e
          → slot_of (d.tables (suc m)) j ≡ held e
      go (stays z) = z
      go (confirmed b right z) = absurd (none m (omega arith) (subst (λ (r : ℕ). ResponseTo r c m e) (running-at m (omega arith)) right))
      go (renewed right n z) = never right.established p.pending
      go (ended right n z) = never right.established p.pending

  -- just after its first right response it is established
  established-at : (i : ℕ) → FirstResponse running c i e → slot_of (d.tables (suc i)) j ≡ held (establish e)
  established-at i f =
      let l = f.within in
      ((d.options i l).establishes j e (untouched-to i (omega arith) f.first) p.pending).1
      (subst (λ (r : ℕ). ResponseTo r c i e) (sym (running-at i (omega arith))) f.response)

  -- and stays so while no option refreshes it
  established-to : (i : ℕ) → FirstResponse running c i e → (m : ℕ) → i < m → m ≤ done_options c → ((k : ℕ) → i < k → k < m → RefreshOf c k e → ⊥)
      → slot_of (d.tables m) j ≡ held (establish e)
  established-to i f zero l h none = absurd (omega arith)
  established-to i f (suc m) l h none =
      ⊎_elim
      (λ (z : i ≡ m). subst (λ (k : ℕ). slot_of (d.tables (suc k)) j ≡ held (establish e)) z (established-at i f))
      (λ (z : i < m).
      go z (after-at m (establish e) (omega arith) (established-to i f m z (omega arith) (λ k a b. none k a (omega arith)))))
      (let z : i ≤ m = omega arith in eq-or-lt_of_le z)
    where
      go : i < m
          → EntryAfter c.sender (question c.datagram m) (llq_option c.datagram m) (d.tables m) (d.tables (suc m)) j (establish e)
          → slot_of (d.tables (suc m)) j ≡ held (establish e)
      go a (stays z) = z
      go a (confirmed b right z) = never {b = true} refl b
      go a (renewed right n z) = absurd (none m a (omega arith) right)
      go a (ended right n z) = absurd (none m a (omega arith) right)

  -- it is there still while no option ends it
  kept-to : (i : ℕ) → FirstResponse running c i e → (m : ℕ) → i < m → m ≤ done_options c
      → ((k : ℕ) → i < k → k < m → RefreshOf c k e → (llq_option c.datagram k).lease ≢ 0) → StillHeld (d.tables m) j e
  kept-to i f zero l h none = absurd (omega arith)
  kept-to i f (suc m) l h none =
      ⊎_elim
      (λ (z : i ≡ m).
      subst (λ (k : ℕ). StillHeld (d.tables (suc k)) j e) z
      (record {
        entry = establish e;
        here = established-at i f;
        established = refl;
        number = refl;
        address = refl;
        port = refl;
        name = refl;
        qtype = refl;
        qclass = refl;
      }))
      (λ (z : i < m). next z (kept-to i f m z (omega arith) (λ k a b. none k a (omega arith))))
      (let z : i ≤ m = omega arith in eq-or-lt_of_le z)
    where
      -- a right refresh of what is kept is one of the entry
      refreshes : (k : StillHeld (d.tables m) j e) → RightRefresh c.sender (question c.datagram m) (llq_option c.datagram m) k.entry → RefreshOf c m e
      refreshes k r =
          record {
            refresh = r.refresh;
            own = record {
              address = sym k.address ∙ r.own.address;
              port = sym k.port ∙ r.own.port;
              name = sym k.name ∙ r.own.name;
              qtype = sym k.qtype ∙ r.own.qtype;
              qclass = sym k.qclass ∙ r.own.qclass;
            };
            number = sym k.number ∙ r.number;
            established = refl;
          }

      -- kept in another entry that differs in lease and stamp alone
      again : (k : StillHeld (d.tables m) j e) (lease stamp : ℕ)
          → slot_of (d.tables (suc m)) j
          ≡ held (record { established = k.entry.established; address = k.entry.address; port = k.entry.port; number = k.entry.number; lease = lease; stamp = stamp; qtype = k.entry.qtype; qclass = k.entry.qclass; name = k.entry.name })
          → StillHeld (d.tables (suc m)) j e
      again k lease stamp z =
          record {
            entry = record { established = k.entry.established; address = k.entry.address; port = k.entry.port; number = k.entry.number; lease = lease; stamp = stamp; qtype = k.entry.qtype; qclass = k.entry.qclass; name = k.entry.name };
            here = z;
            established = k.established;
            number = k.number;
            address = k.address;
            port = k.port;
            name = k.name;
            qtype = k.qtype;
            qclass = k.qclass;
          }

      go : i < m → (k : StillHeld (d.tables m) j e)
          → EntryAfter c.sender (question c.datagram m) (llq_option c.datagram m) (d.tables m) (d.tables (suc m)) j k.entry
          → StillHeld (d.tables (suc m)) j e
      go a k (stays z) = again k k.entry.lease k.entry.stamp z
      go a k (confirmed b right z) = never k.established b
      go a k (renewed right n z) = again k _ _ z
      go a k (ended right n z) = absurd (none m a (omega arith) (refreshes k right) n)

      next : i < m → StillHeld (d.tables m) j e → StillHeld (d.tables (suc m)) j e
      next a k = go a k (after-at m k.entry (omega arith) k.here)

  pending-after : PendingAfter running c (d.tables (done_options c)) j e
  pending-after =
      record {
        untouched = λ none. untouched-to (done_options c) (omega arith) none;
        established = λ i f none. established-to i f (done_options c) f.within (omega arith) none;
        stays = λ i f none.
            kept-to i f (done_options c) f.within (omega arith) none;
      }

pub established-exactly : EstablishedExactly model
established-exactly c b lent range stored room h j e p =
    rw (read_left c b lent range stored h) (pending-after c b (serve c b lent).table (datagram-done c b lent range stored h) j e p)
