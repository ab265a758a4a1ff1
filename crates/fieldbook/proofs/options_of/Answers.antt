-- An option that the list leaves out is its default.
use mathlib.Core.Path.{◌≡◌, refl}
use mathlib.Core.List.{List, [], ◌∷◌}
use Prim.Native.Nat.{◌<◌}
use native.Mathlib.Omega.{arith}
use lib.IntN.{ℤ, pos}
use lib.ListN.{length, get_or}
use mir.Facts.{to_z-of_z}
use mir.Syntax.{w64}
use mir.Val.{SFits}
use Rattle.fieldbook.specs.Shot.{defaults, options_of}
use Rattle.fieldbook.proofs.options_of.Goals as goal

none : (l : List ℤ) → length l ≡ 0 → defaults ≡ options_of l
unfolding options_of
none [] e = refl
none (x ∷ l) e = absurd (omega arith)

some : (l : List ℤ) → 0 < length l → record { edition = get_or l 0 (pos 0) } ≡ options_of l
unfolding options_of
some [] h = absurd (omega arith)
some (x ∷ l) h = refl

pub returns-in-empty : goal.returns-in-empty
returns-in-empty c = none c.args.list.now (omega arith)

pub returns-in-len1-up : goal.returns-in-len1-up
returns-in-len1-up c =
    let l = c.args.list.now in
    let fit : SFits w64 (get_or l 0 (pos 0)) = record { sfits = omega arith } in
    simp (to_z-of_z, fit) (some l (omega arith))
