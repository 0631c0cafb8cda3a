-- AN OPENING over lent buffers that hold fold 0: the kernel that ran over them has the opening's values.
use mathlib.Core.Path.{◌≡◌, refl, sym, subst, ◌∙◌}
use mathlib.Core.List.{List}
use Prim.Native.Nat.{ℕ, ◌^◌, ◌≤◌, ◌<◌}
use native.Mathlib.Nat.{le_refl}
use native.Mathlib.Omega.{arith}
use lib.ListN.{length, take}
use lib.Seq.{length-take-le, get_or-take}
use Rattle.vector.specs.Vector.{Vector, at as items}
use Rattle.vector.specs.Opening.{opening}
use Rattle.kernel.specs.Kernel.{pairs_in, streamed, empty_kernel}
use Rattle.kernel.specs.declared.Points.{Points}
use Rattle.kernel.specs.declared.Kernel.{Kernel}
use Rattle.kernel.proofs.KernelPass.{Taken}
use Rattle.kernel.proofs.KernelStream.{whole-stream}
use Rattle.pass.specs.Values.{in_ninety, values_of}
use Rattle.pass.specs.Open.{points_of}
use Rattle.pass.proofs.OpeningValues.{taken-opening, taken-opened}

-- the kernel that ran over the first places of the buffers
abbrev pub first_places : ℕ → List ℕ → ℕ → Points → List ℕ → List ℕ → Kernel
first_places p cs n at fs gs =
    streamed p cs n at (items (take (2 ^ n) fs)) (items (take (2 ^ n) gs)) (pairs_in (take (2 ^ n) fs) (take (2 ^ n) gs)) empty_kernel

-- the buffers' first 2^n places are f and g, and the run's challenges are c
module _ (p n : ℕ) (c : ℕ → ℕ) (at : Points) (f g : Vector) (few : n ≤ 15) (cs : List ℕ) (agree : (j : ℕ) → j < n → items cs j ≡ c j)
    (fs gs : List ℕ) (flong : 2 ^ n ≤ length fs) (glong : 2 ^ n ≤ length gs)
    (first : (k : ℕ) → k < 2 ^ n → items fs k ≡ f k) (second : (k : ℕ) → k < 2 ^ n → items gs k ≡ g k) where
  pub places-taken : Taken p n c n at f g (2 ^ n) (first_places p cs n at fs gs)
  places-taken =
      let flength : length (take (2 ^ n) fs) ≡ 2 ^ n = length-take-le (2 ^ n) fs flong in
      let glength : length (take (2 ^ n) gs) ≡ 2 ^ n = length-take-le (2 ^ n) gs glong in
      let pairs : 2 ^ n ≡ pairs_in (take (2 ^ n) fs) (take (2 ^ n) gs) = omega arith in
      subst (λ m. Taken p n c n at f g (2 ^ n) (streamed p cs n at (items (take (2 ^ n) fs)) (items (take (2 ^ n) gs)) m empty_kernel)) pairs
      (whole-stream p n c n at f g few (le_refl n) cs agree (take (2 ^ n) fs) (take (2 ^ n) gs)
      (λ k h. get_or-take (2 ^ n) fs k 0 h ∙ first k h) (λ k h. get_or-take (2 ^ n) gs k 0 h ∙ second k h))

-- the opening of the buffers as they are
pub stream_values : (p n b : ℕ) (cs fs gs : List ℕ) → n ≤ 15 → 2 ^ n ≤ length fs → 2 ^ n ≤ length gs
    → values_of (first_places p cs n (points_of p b) fs gs).evals n ≡ in_ninety n (opening p n (items cs) (items fs) (items gs) b)
stream_values p n b cs fs gs few flong glong =
    taken-opened p n (items cs) (points_of p b) (items fs) (items gs) (first_places p cs n (points_of p b) fs gs) b refl refl refl refl
    (places-taken p n (items cs) (points_of p b) (items fs) (items gs) few cs (λ j h. refl) fs gs flong glong (λ k h. refl) (λ k h. refl)) few

-- it is the opening of the vectors that the buffers hold, under the challenges that the run keeps
pub opening-same : (p n : ℕ) (c : ℕ → ℕ) (f g : Vector) (b : ℕ) (cs fs gs : List ℕ) → n ≤ 15 → ((j : ℕ) → j < n → items cs j ≡ c j)
    → ((k : ℕ) → k < 2 ^ n → items fs k ≡ f k) → ((k : ℕ) → k < 2 ^ n → items gs k ≡ g k)
    → opening p n (items cs) (items fs) (items gs) b ≡ opening p n c f g b
opening-same p n c f g b cs fs gs few agree first second =
    let k : Kernel = streamed p cs n (points_of p b) (items fs) (items gs) (2 ^ n) empty_kernel in
    sym
    (taken-opening p n (items cs) (points_of p b) (items fs) (items gs) k b refl refl refl refl
    (whole-stream p n (items cs) n (points_of p b) (items fs) (items gs) few (le_refl n) cs (λ j h. refl) fs gs (λ k h. refl) (λ k h. refl)))
    ∙ taken-opening p n c (points_of p b) f g k b refl refl refl refl
    (whole-stream p n c n (points_of p b) f g few (le_refl n) cs agree fs gs first second)
