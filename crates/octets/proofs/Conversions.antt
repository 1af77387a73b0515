-- The library's bytes of a number are the rules'. Assumes nothing.
use Prim.Native.Nat.{ℕ, zero, suc, ◌*◌, ◌/◌, ◌%◌, ◌^◌}
use native.Mathlib.Nat.{pow-suc, div-div-eq-div-mul}
use native.Mathlib.Omega.{arith}
use mathlib.Core.Path.{◌≡◌, refl, ap, ◌∙◌}
use mathlib.Core.List.{List, [], ◌∷◌, ◌++◌}
use Rattle.std.specs.Int.{byte_at, bytes_high_first}
use Rattle.model.specs.Numbers.{bytes_of}

-- byte k + 1 of x is byte k of what is above its last byte
byte-next : (k x : ℕ) → byte_at (suc k) x ≡ byte_at k (x / 256)
byte-next zero x = refl
byte-next (suc k) x =
    let p : 256 ^ suc (suc k) ≡ 256 * 256 ^ suc k = omega (arith, pow-suc 256 (suc k)) in
    rw (p, ← div-div-eq-div-mul x 256 (256 ^ suc k))

-- the last of the bytes is x's last
high-last : (k x : ℕ) → bytes_high_first (suc k) x ≡ bytes_high_first k (x / 256) ++ (x % 256 ∷ [])
high-last zero x = refl
high-last (suc k) x = rw byte-next (ap (λ (l : List ℕ). byte_at k (x / 256) ∷ l) (high-last k x))

pub high-first-is : (k x : ℕ) → bytes_high_first k x ≡ bytes_of k x
unfolding bytes_of
high-first-is zero x = refl
high-first-is (suc k) x = high-last k x ∙ ap (λ (l : List ℕ). l ++ (x % 256 ∷ [])) (high-first-is k (x / 256))
