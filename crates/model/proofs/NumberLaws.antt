-- The laws of Numbers: what is written is read, and parts and splices of a list. Assumes nothing.
use Prim.Native.Nat.{ℕ, zero, suc, ◌+◌, ◌-◌, ◌*◌, ◌/◌, ◌%◌, ◌^◌, ◌≤◌, ◌<◌}
use native.Mathlib.Nat.{zero-add, add_assoc, mul_assoc, pow-suc, add-zero, add-suc}
use native.Mathlib.Omega.{arith}
use lib.Dec.{lit<}
use mathlib.Core.Path.{◌≡◌, refl, sym, ap, ◌∙◌, subst}
use mathlib.Core.List.{List, [], ◌∷◌, ◌++◌, append_assoc, append-nil}
use lib.ListN.{length, take, drop, get_or, set, length-append, length-take, length-drop, take-append-drop, drop_of_length-le, replicate}
use lib.Seq.{drop-cons, take-suc, get_or-drop, get_or-take, get_or_at, take_at, drop_at, get_or-append-add, drop-drop, set_split, set_at, take-length}
use native.Mathlib.Numerals.{add-one}
use Rattle.model.specs.Numbers.{big_endian, Bytes, bytes_of, part, splice, encode}
use Rattle.model.proofs.Fields.{width, offset, writes}

pub more : (i : ℕ) {r b : ℕ} → r < 256 ^ i → b < 256 → r * 256 + b < 256 ^ suc i
more i {r} {b} h l = rw pow-suc (omega arith)

pub big_lt : (s : List ℕ) (at k : ℕ) → Bytes s → big_endian s at k < 256 ^ k
unfolding big_endian
big_lt s at zero h = lit< tt
big_lt s at (suc k) h = more k (big_lt s at k h) (h (at + k))

pub length-bytes : (k x : ℕ) → length (bytes_of k x) ≡ k
unfolding bytes_of
length-bytes zero x = refl
length-bytes (suc k) x = simp (length-append, length-bytes k (x / 256)) (omega arith)

pub splice-none : (at : ℕ) (s : List ℕ) → splice at 0 [] s ≡ s
unfolding splice
splice-none at s = rw (add-zero, take-append-drop)

-- a number of j + k bytes is its first j and its last k
pub big-add : (s : List ℕ) (at j k : ℕ) → big_endian s at (j + k) ≡ big_endian s at j * 256 ^ k + big_endian s (at + j) k
unfolding big_endian
big-add s at j zero = rw (add-zero) (omega arith)
big-add s at j (suc k) =
    let e : at + j + k ≡ at + (j + k) = omega arith in
    let p : big_endian s at j * (256 ^ k * 256) ≡ big_endian s at j * 256 ^ k * 256 = sym (mul_assoc (big_endian s at j) (256 ^ k) 256) in
    rw (add-suc, pow-suc, p, e, big-add s at j k) (omega arith)

-- the round trip

big-bytes : (k x : ℕ) (p q : List ℕ) → x < 256 ^ k → big_endian (p ++ (bytes_of k x ++ q)) (length p) k ≡ x
unfolding big_endian bytes_of
big-bytes zero x p q h = omega arith
big-bytes (suc k) x p q h =
    let w : x < 256 ^ k * 256 = rw pow-suc at h in
    let e : p ++ (bytes_of (suc k) x ++ q) ≡ p ++ (bytes_of k (x / 256) ++ (x % 256 ∷ q)) = ap (λ (r : List ℕ). p ++ r) (append_assoc (bytes_of k (x / 256)) (x % 256 ∷ []) q) in
    let b : big_endian (p ++ (bytes_of k (x / 256) ++ (x % 256 ∷ q))) (length p) k ≡ x / 256 = big-bytes k (x / 256) p (x % 256 ∷ q) (omega arith) in
    subst
    (λ (r : List ℕ). big_endian r (length p) (suc k) ≡ x)
    (sym e)
    (rw (b, get_or-append-add p (bytes_of k (x / 256) ++ (x % 256 ∷ q)) k 0, get_or_at (bytes_of k (x / 256)) (x % 256) q 0 k (length-bytes k (x / 256)))
    (omega arith))

-- what was read is written
pub bytes-big : (s : List ℕ) (at k : ℕ) → Bytes s → at + k ≤ length s → bytes_of k (big_endian s at k) ≡ part at k s
unfolding big_endian bytes_of part
bytes-big s at zero b h = refl
bytes-big s at (suc k) b h =
    let d : get_or s (at + k) 0 < 256 = b (at + k) in
    let l : k < length (drop at s) = simp length-drop (omega arith) in
    let e : (big_endian s at k * 256 + get_or s (at + k) 0) / 256 ≡ big_endian s at k = omega arith in
    let f : (big_endian s at k * 256 + get_or s (at + k) 0) % 256 ≡ get_or s (at + k) 0 = omega arith in
    let h' : at + k ≤ length s = omega arith in
    rw (e, f, take-suc (drop at s) k 0 l, get_or-drop, bytes-big s at k b h')

pub splice-part : (at k : ℕ) (s : List ℕ) → splice at k (part at k s) s ≡ s
unfolding splice part
splice-part at k s = rw (← drop-drop k at s, take-append-drop, take-append-drop)

-- parts and splices

pub length_part : (at k : ℕ) (s : List ℕ) → at + k ≤ length s → length (part at k s) ≡ k
unfolding part
length_part at k s h = simp (length-take, length-drop) (omega arith)

pub get_or-part : (at k : ℕ) (s : List ℕ) (i : ℕ) → i < k → get_or (part at k s) i 0 ≡ get_or s (at + i) 0
unfolding part
get_or-part at k s i h = rw (get_or-take, get_or-drop)

pub length-splice : (at k : ℕ) (vs s : List ℕ) → length vs ≡ k → at + k ≤ length s → length (splice at k vs s) ≡ length s
unfolding splice
length-splice at k vs s e h = simp (length-append, length-take, length-drop) (omega arith)

pub big-ext : (s t : List ℕ) (a b k : ℕ) → ((i : ℕ) → i < k → get_or s (a + i) 0 ≡ get_or t (b + i) 0) → big_endian s a k ≡ big_endian t b k
unfolding big_endian
big-ext s t a b zero h = refl
big-ext s t a b (suc k) h = rw (big-ext s t a b k (λ i l. h i (omega arith)), h k (omega arith))

pub big-part : (s : List ℕ) (b m at k : ℕ) → at + k ≤ m → big_endian (part b m s) at k ≡ big_endian s (b + at) k
big-part s b m at k l =
    big-ext (part b m s) s at (b + at) k (λ i h. get_or-part b m s (at + i) (omega arith) ∙ ap (λ (j : ℕ). get_or s j 0) (omega arith))

-- what the whole is once `&mut t[a..e]`, with e = a + k, has come back holding vs
pub lent_is : (t : List ℕ) (k : ℕ) {a b : ℕ} {vs ws : List ℕ} → a ≡ b → vs ≡ ws → take a t ++ (vs ++ drop (a + k - a) (drop a t)) ≡ splice b k ws t
unfolding splice
lent_is t k {a} {b} e f = let d : a + k - a ≡ k = omega arith in rw (d, drop-drop, e, f)

-- all of it written over
pub splice_all : (n : ℕ) (vs s : List ℕ) → length s ≡ n → splice 0 n vs s ≡ vs
unfolding splice
splice_all n vs s h = let e : length s ≤ 0 + n = omega arith in rw (drop_of_length-le s e) (append-nil vs)

-- what stands behind a elements and before q written over
pub splice-mid : (p m q vs : List ℕ) (a k : ℕ) → length p ≡ a → length m ≡ k → splice a k vs (p ++ (m ++ q)) ≡ p ++ (vs ++ q)
unfolding splice
splice-mid p m q vs a k e f =
    let l : length (p ++ m) ≡ a + k = length-append p m ∙ (rw (e, f)) in
    let d : drop (a + k) (p ++ (m ++ q)) ≡ q = ap (drop (a + k)) (sym (append_assoc p m q)) ∙ drop_at (p ++ m) q (a + k) l in
    rw (take_at p (m ++ q) a e, d)

-- records of fields

pub big-skip : (vs s : List ℕ) (k at m : ℕ) → length vs ≡ k → big_endian (vs ++ s) (k + at) m ≡ big_endian s at m
big-skip vs s k at m e =
    big-ext (vs ++ s) s (k + at) at m
    (λ i l. let r : k + at + i ≡ length vs + (at + i) = omega arith in rw (r, get_or-append-add))

pub length-encode : (fs : List (ℕ × ℕ)) → length (encode fs) ≡ width fs
unfolding encode
length-encode [] = refl
length-encode (f ∷ fs) = rw (length-append, length-bytes, length-encode fs)

-- a first field of one byte
pub encode-first : (k : ℕ) (fs : List (ℕ × ℕ)) → k < 256 → encode ((1, k) ∷ fs) ≡ k ∷ encode fs
unfolding encode bytes_of
encode-first k fs h = let e : k % 256 ≡ k = omega arith in rw e

-- what is read at a field's place is the field's value
pub field_at : (fs : List (ℕ × ℕ)) (q : List ℕ) (i : ℕ) → i < length fs → (get_or fs i (0, 0)).1 < 256 ^ (get_or fs i (0, 0)).0
    → big_endian (encode fs ++ q) (offset fs i) (get_or fs i (0, 0)).0 ≡ (get_or fs i (0, 0)).1
unfolding encode
field_at [] q i l h = absurd (omega arith)
field_at (f ∷ fs) q zero l h = rw append_assoc (big-bytes f.0 f.1 [] (encode fs ++ q) h)
field_at (f ∷ fs) q (suc i) l h =
    rw append_assoc (big-skip (bytes_of f.0 f.1) (encode fs ++ q) f.0 (offset fs i) (get_or fs i (0, 0)).0 (length-bytes f.0 f.1)
    ∙ field_at fs q i (omega arith) h)

-- two writes side by side are one
pub splice-splice : (at j k : ℕ) (us vs s : List ℕ) → length us ≡ j → at + (j + k) ≤ length s
    → splice (at + j) k vs (splice at j us s) ≡ splice at (j + k) (us ++ vs) s
unfolding splice
splice-splice at j k us vs s e h =
    let t : length (take at s ++ us) ≡ at + j = simp (length-append, length-take) (omega arith) in
    let d : drop (at + j + k) (take at s ++ (us ++ drop (at + j) s)) ≡ drop (at + (j + k)) s =
    rw (
      ← drop-drop k (at + j) (take at s ++ (us ++ drop (at + j) s)),
      ← append_assoc (take at s) us (drop (at + j) s),
      drop_at (take at s ++ us) (drop (at + j) s) (at + j) t,
      drop-drop k (at + j) s,
      add_assoc at j k,
    ) in
    rw (
      d,
      ← append_assoc (take at s) us (drop (at + j) s),
      take_at (take at s ++ us) (drop (at + j) s) (at + j) t,
      append_assoc (take at s) us (vs ++ drop (at + (j + k)) s),
      append_assoc us vs (drop (at + (j + k)) s),
    )

pub writes-eq : (fs : List (ℕ × ℕ)) (at : ℕ) (s : List ℕ) → at + width fs ≤ length s → writes fs at s ≡ splice at (width fs) (encode fs) s
unfolding encode
writes-eq [] at s h = sym (splice-none at s)
writes-eq (f ∷ fs) at s h =
    let l : length (splice at f.0 (bytes_of f.0 f.1) s) ≡ length s =
    length-splice at f.0 (bytes_of f.0 f.1) s (length-bytes f.0 f.1) (omega arith) in
    writes-eq fs (at + f.0) (splice at f.0 (bytes_of f.0 f.1) s) (omega arith)
    ∙ splice-splice at f.0 (width fs) (bytes_of f.0 f.1) (encode fs) s (length-bytes f.0 f.1) (omega arith)

-- a store of one element is a write of one, and of one byte
pub set-one : (s : List ℕ) (at x : ℕ) → at < length s → set s at x ≡ splice at 1 (x ∷ []) s
unfolding splice
set-one s at x h = rw add-one (set_split s at x h)

pub set-splice : (s : List ℕ) (at x : ℕ) → at < length s → x < 256 → set s at x ≡ splice at 1 (bytes_of 1 x) s
unfolding bytes_of
set-splice s at x h l = let e : x % 256 ≡ x = omega arith in rw e (set-one s at x h)

pub big-one : (s : List ℕ) (at : ℕ) → big_endian s at 1 ≡ get_or s at 0
unfolding big_endian
big-one s at = rw (add-zero at) (omega arith)

-- one more element behind those that were written: what a turn of a copy or a fill does
pub splice-next : (at i x : ℕ) (us s : List ℕ) → length us ≡ i → at + i < length s
    → set (splice at i us s) (at + i) x ≡ splice at (i + 1) (us ++ (x ∷ [])) s
unfolding splice
splice-next at i x us s e h =
    let t : length (take at s ++ us) ≡ at + i = simp (length-append, length-take) (omega arith) in
    let a : at + (i + 1) ≡ suc (at + i) = omega arith in
    rw (
      drop-cons s (at + i) 0 h,
      ← append_assoc (take at s) us (get_or s (at + i) 0 ∷ drop (suc (at + i)) s),
      set_at (take at s ++ us) (get_or s (at + i) 0) (drop (suc (at + i)) s) x (at + i) t,
      a,
      append_assoc,
      append_assoc,
    )

pub part-next : (from i : ℕ) (s : List ℕ) → from + i < length s → part from (i + 1) s ≡ part from i s ++ (get_or s (from + i) 0 ∷ [])
unfolding part
part-next from i s h =
    let l : i < length (drop from s) = simp length-drop (omega arith) in
    rw (add-one, take-suc (drop from s) i 0 l, get_or-drop)

-- a turn of a copy
pub copy_step : (at from i : ℕ) (s t : List ℕ) → from + i < length s → at + i < length t
    → set (splice at i (part from i s) t) (at + i) (get_or s (from + i) 0) ≡ splice at (i + 1) (part from (i + 1) s) t
copy_step at from i s t h l =
    rw (part-next from i s h) (splice-next at i (get_or s (from + i) 0) (part from i s) t (length_part from i s (omega arith)) l)

pub part_none : (at : ℕ) (s : List ℕ) → part at 0 s ≡ []
unfolding part
part_none at s = refl

pub part-all : (s : List ℕ) → part 0 (length s) s ≡ s
unfolding part
part-all s = take-length s

-- what is written behind the first k bytes
pub splice-on : (k j : ℕ) (us vs s : List ℕ) → length us ≡ k → k + j ≤ length s → splice k j vs (splice 0 k us s) ≡ splice 0 (k + j) (us ++ vs) s
splice-on k j us vs s e h = rw (zero-add k) at (splice-splice 0 k j us vs s e (omega arith))

-- LISTS OF BYTES

pub bytes-nil : Bytes []
bytes-nil i = lit< tt

pub bytes-append : (a b : List ℕ) → Bytes a → Bytes b → Bytes (a ++ b)
bytes-append [] b p q i = q i
bytes-append (x ∷ a) b p q zero = p 0
bytes-append (x ∷ a) b p q (suc i) = bytes-append a b (λ j. p (suc j)) q i

pub bytes-cons : (x : ℕ) (a : List ℕ) → x < 256 → Bytes a → Bytes (x ∷ a)
bytes-cons x a h p zero = h
bytes-cons x a h p (suc i) = p i

pub bytes_take : (n : ℕ) (s : List ℕ) → Bytes s → Bytes (take n s)
bytes_take zero s p i = lit< tt
bytes_take (suc n) [] p i = lit< tt
bytes_take (suc n) (x ∷ s) p zero = p 0
bytes_take (suc n) (x ∷ s) p (suc i) = bytes_take n s (λ j. p (suc j)) i

pub bytes_drop : (n : ℕ) (s : List ℕ) → Bytes s → Bytes (drop n s)
bytes_drop n s p i = rw get_or-drop (p (n + i))

pub bytes-part : (at k : ℕ) (s : List ℕ) → Bytes s → Bytes (part at k s)
unfolding part
bytes-part at k s p = bytes_take k (drop at s) (bytes_drop at s p)

pub bytes-of : (k x : ℕ) → Bytes (bytes_of k x)
unfolding bytes_of
bytes-of zero x = bytes-nil
bytes-of (suc k) x = bytes-append (bytes_of k (x / 256)) (x % 256 ∷ []) (bytes-of k (x / 256)) (bytes-cons (x % 256) [] (omega arith) bytes-nil)

pub bytes-encode : (fs : List (ℕ × ℕ)) → Bytes (encode fs)
unfolding encode
bytes-encode [] = bytes-nil
bytes-encode (f ∷ fs) = bytes-append (bytes_of f.0 f.1) (encode fs) (bytes-of f.0 f.1) (bytes-encode fs)

pub bytes-zeros : (n : ℕ) → Bytes (replicate n 0)
bytes-zeros zero = bytes-nil
bytes-zeros (suc n) = bytes-cons 0 (replicate n 0) (lit< tt) (bytes-zeros n)
