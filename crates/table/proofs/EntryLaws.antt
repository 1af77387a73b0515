-- Laws for an entry written into a slot. Assumes nothing.
use Prim.Native.Nat.{ℕ, zero, suc, ◌+◌, ◌-◌, ◌*◌, ◌/◌, ◌%◌, ◌^◌, ◌≤◌, ◌<◌}
use native.Mathlib.Nat.{add-zero, add-suc, mul_assoc, pow-suc}
use native.Mathlib.Omega.{arith}
use mathlib.Core.Path.{◌≡◌, sym, ◌∙◌}
use mathlib.Core.Bool.{false}
use mathlib.Core.List.{List, ◌++◌, map, append-nil, append_assoc}
use lib.ListN.{length, replicate, length-append}
use Rattle.model.specs.Numbers.{bytes_of, part, splice, encode}
use Rattle.model.specs.Names.{fold}
use Rattle.model.specs.Table.{held, slot_bytes}
use Rattle.model.proofs.NumberLaws.{splice-splice, splice-on, splice_all, length-bytes, length-encode, length_part}
use Rattle.model.proofs.ListLaws.{length-map}
use Rattle.entries.specs.declared.Entry.{Entry}
use Rattle.record.specs.declared.State.TheVariants.{Pending}
use Rattle.table.specs.Stored.{holder_fields, holder_halves, lease_fields, name_bytes, entry_bytes, stored_as}

-- a number's bytes in two parts
bytes-add : (j k x y : ℕ) → y < 256 ^ k → bytes_of (j + k) (x * 256 ^ k + y) ≡ bytes_of j x ++ bytes_of k y
unfolding bytes_of
bytes-add j zero x y h = let e : x * 1 + y ≡ x = omega arith in rw (add-zero, e, append-nil)
bytes-add j (suc k) x y h =
    let p : x * (256 ^ k * 256) ≡ x * 256 ^ k * 256 = sym (mul_assoc x (256 ^ k) 256) in
    let w : y < 256 ^ k * 256 = rw pow-suc at h in
    let d : (x * 256 ^ k * 256 + y) / 256 ≡ x * 256 ^ k + y / 256 = omega arith in
    let m : (x * 256 ^ k * 256 + y) % 256 ≡ y % 256 = omega arith in
    rw (add-suc, pow-suc, p, d, m, bytes-add j k x (y / 256) (omega arith), append_assoc)

pub halves-written : (e : Entry) → e.sender.address.low < 2 ^ 64 → encode (holder_halves e) ≡ encode (holder_fields e)
unfolding encode
halves-written e h = rw (bytes-add 8 8 e.sender.address.high e.sender.address.low h, append_assoc)

-- a name that d has whole keeps its length when it is folded
pub folded-length : (d : List ℕ) (at len : ℕ) → at + len ≤ length d → length (map fold (part at len d)) ≡ len
folded-length d at len h = length-map fold (part at len d) ∙ length_part at len d h

pub name-bytes : (s name : List ℕ) (n : ℕ) → length name ≡ n → length s ≡ 320 → n ≤ 255
    → splice (40 + n) (280 - n) (replicate (280 - n) 0) (splice 40 n name (splice 39 1 (bytes_of 1 n) s)) ≡ splice 39 281 (name_bytes name) s
name-bytes s name n e h l =
    let a = splice-splice 39 1 n (bytes_of 1 n) name s (length-bytes 1 n) (omega arith) in
    let ln : length (bytes_of 1 n ++ name) ≡ 1 + n = length-append (bytes_of 1 n) name ∙ (rw (length-bytes 1 n, e)) in
    let z = splice-splice 39 (1 + n) (280 - n) (bytes_of 1 n ++ name) (replicate (280 - n) 0) s ln (omega arith) in
    let p : 40 + n ≡ 39 + (1 + n) = omega arith in
    let q : 1 + n + (280 - n) ≡ 281 = omega arith in
    rw (e, a, p, z, q, append_assoc)

pub entry-bytes : (s : List ℕ) (e : Entry) (name : List ℕ) → length s ≡ 320 → length name ≤ 255
    → splice 39 281 (name_bytes name) (splice 27 12 (encode (lease_fields e)) (splice 0 27 (encode (holder_fields e)) s)) ≡ entry_bytes e name
unfolding entry_bytes
entry-bytes s e name h l =
    let a = splice-on 27 12 (encode (holder_fields e)) (encode (lease_fields e)) s (length-encode (holder_fields e)) (omega arith) in
    let ln : length (encode (holder_fields e) ++ encode (lease_fields e)) ≡ 39 =
    length-append (encode (holder_fields e)) (encode (lease_fields e)) ∙ (rw (length-encode (holder_fields e), length-encode (lease_fields e))) in
    let b = splice-on 39 281 (encode (holder_fields e) ++ encode (lease_fields e)) (name_bytes name) s ln (omega arith) in
    rw (a, b) (splice_all 320 _ s h)

-- a pending entry's bytes are the model's
pub pending-bytes : (e : Entry) (name : List ℕ) → e.state ≡ Pending → entry_bytes e name ≡ slot_bytes (held (stored_as false e name))
unfolding entry_bytes slot_bytes encode
pending-bytes e name h = rw h (simp (append_assoc, append-nil))
