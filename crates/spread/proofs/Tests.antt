-- Two tests of which one fails: the arms of `!p || !q`.
use mathlib.Core.Path.{◌≡◌, refl, ap}
use mathlib.Core.Bool.{Bool, true, false, ◌&&◌}

pub first-fails : (p q : Bool) → p ≡ false → (p && q) ≡ false
first-fails p q e = ap (λ t. t && q) e

pub second-fails : (p q : Bool) → q ≡ false → (p && q) ≡ false
second-fails true q e = e
second-fails false q e = refl
