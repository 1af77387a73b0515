-- Document 01's rules of holdings: who holds what, share, limit, reserve, full, the granted lease, the number search. Assumes nothing.
-- A rule that asks how many entries there are of a kind takes the count of holdings by a test.
use Rattle.std.specs.Prelude.{ℕ, zero, suc, ◌+◌, ◌-◌, ◌%◌, ◌^◌, ◌≤◌, ◌<◌, min, max, ◌≡◌, ◌⊎◌, ◌≢◌, Bool, cond, ◌&&◌, ◌||◌, List, [], ◌∷◌, eqb, leb}
use Rattle.model.specs.Lists.{any, same}
use Rattle.model.specs.Clock.{age_at}
use Rattle.model.specs.Query.{Question}
use Rattle.model.specs.Table.{Line, Entry, Slot, free, held, Table}

-- an entry with its age in place of its stamp
pub record Holding : Type 0 where
  pub established : Bool
  pub address : ℕ
  pub port : ℕ
  pub number : ℕ
  pub lease : ℕ
  pub age : ℕ
  pub qtype : ℕ
  pub qclass : ℕ
  pub name : List ℕ

abbrev pub holding : ℕ → Entry → Holding
holding running e =
    record {
      established = e.established;
      address = e.address;
      port = e.port;
      number = e.number;
      lease = e.lease;
      age = age_at running e.stamp;
      qtype = e.qtype;
      qclass = e.qclass;
      name = e.name;
    }

-- the entries of the slots, in slot order
unfoldable pub entries_of : ℕ → List Slot → List Holding
entries_of running [] = []
entries_of running (free ∷ s) = entries_of running s
entries_of running (held e ∷ s) = holding running e ∷ entries_of running s

abbrev pub holdings : Table → List Holding
holdings t = entries_of t.clock.running t.slots

-- TESTS OF ONE HOLDING

-- holdings count by address, over all ports, pending entries included
abbrev pub held_by : ℕ → Holding → Bool
held_by a h = eqb h.address a

abbrev pub numbered : ℕ → Holding → Bool
numbered x h = eqb h.number x

-- it is of this address, port and question
abbrev pub asks : ℕ → ℕ → Question → Holding → Bool
asks a p q h =
    eqb h.address a && eqb h.port p && eqb h.qtype q.qtype && eqb h.qclass q.qclass && same h.name q.name

-- HOW MANY: of the holdings, those that pass a test
abbrev pub Counts : Type 0
Counts = (Holding → Bool) → ℕ

-- a listed address has its line's share; an unlisted one has 0
unfoldable pub share_of : List Line → ℕ → ℕ
share_of [] a = 0
share_of (l ∷ ls) a = cond (eqb l.address a) l.share (share_of ls a)

-- a listed address has its line's limit; an unlisted one has 4
unfoldable pub limit_of : List Line → ℕ → ℕ
limit_of [] a = 4
limit_of (l ∷ ls) a = cond (eqb l.address a) l.limit (limit_of ls a)

-- the reserve (document 01's term): the sum, over roster lines, of share less held where that is positive
unfoldable pub reserve : List Line → Counts → ℕ
reserve [] c = 0
reserve (l ∷ ls) c = (l.share - c (held_by l.address)) + reserve ls c

-- the sum of the shares
unfoldable pub shares : List Line → ℕ
shares [] = 0
shares (l ∷ ls) = l.share + shares ls

-- SERV-FULL (RFC 8764 sections 5.2.2 and 8.1), with n slots and the address a holding h, share s, limit m: h ≥ m, or h ≥ s and the free
-- slots are no more than the reserve
unfoldable pub full : ℕ → List Line → Counts → ℕ → Bool
full n ls c a = leb (limit_of ls a) (c (held_by a)) || (leb (share_of ls a) (c (held_by a)) && leb (n - c any) (reserve ls c))

-- the granted lease, which RFC 8764 section 5.2.2 leaves to the server: the asked one, raised to 60 or lowered to 7,200
abbrev pub granted_lease : ℕ → ℕ
granted_lease asked = max 60 (min asked 7200)

-- the granted number (LLQ-ID, RFC 8764 section 5.2.2): the first of r, r + 1, r + 2 and so on, modulo 2^64, that is neither 0 nor in the
-- table; k tries are enough if k is 2 more than there are entries
unfoldable pub fresh_number : ℕ → Counts → ℕ → ℕ
fresh_number zero c r = 0
fresh_number (suc k) c r = cond (eqb (r % 2 ^ 64) 0 || leb 1 (c (numbered (r % 2 ^ 64)))) (fresh_number k c (suc r)) (r % 2 ^ 64)

-- The same rule in plain words, which the search meets (model/proofs, FreshLaws; claims, GrantedNumbers).

-- 0, or in use
abbrev pub Taken : Counts → ℕ → Type 0
Taken c x = (x ≡ 0) ⊎ (1 ≤ c (numbered x))

-- x is the first of r, r + 1, .. that is not taken
pub record FirstFree (c : Counts) (r x : ℕ) : Type 0 where
  -- how many are passed
  pub tries : ℕ
  pub is : x ≡ (r + tries) % 2 ^ 64
  pub non_zero : x ≢ 0
  pub unused : c (numbered x) ≡ 0
  pub earlier : (j : ℕ) → j < tries → Taken c ((r + j) % 2 ^ 64)
