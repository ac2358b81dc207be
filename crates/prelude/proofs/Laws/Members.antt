-- The members of a list: the one at a number, and what two functions that agree on all of them make of it.
-- Assumes nothing.
use Rattle.std.specs.Prelude.{ℕ, zero, suc, ◌<◌, ◌≡◌, refl, length, get_or}
use mathlib.Core.List.{List, [], ◌∷◌, map, Memᴰ}
use Rattle.std.proofs.Common.{arith}

pub member_at : {A : Type 0} (xs : List A) (k : ℕ) (d : A) → k < length xs → Memᴰ (get_or xs k d) xs
member_at [] k d h = absurd (let z : ◌≡◌ {A = ℕ} 0 1 = omega arith in omega arith)
member_at (x ∷ xs) zero d h = Memᴰ.head refl
member_at (x ∷ xs) (suc k) d h = Memᴰ.tail (member_at xs k d (omega arith))

pub map_same : {A B : Type 0} (f g : A → B) (xs : List A) → ((x : A) → Memᴰ x xs → g x ≡ f x) → map g xs ≡ map f xs
map_same f g [] e = refl
map_same f g (x ∷ xs) e = rw (e x (Memᴰ.head refl), map_same f g xs (λ y i. e y (Memᴰ.tail i)))
