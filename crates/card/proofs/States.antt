-- What the tests of a field are, by its case.
use Rattle.std.proofs.Common.{◌≡◌, refl, true, false, ℤ}
use Rattle.card.specs.Fields.{is_read, is_confirmed, number_in}
use Rattle.card.specs.declared.Field.{Field}
use Rattle.card.specs.declared.Field.TheVariants.{Empty, Heard, Read, Confirmed}
use Rattle.card.proofs.Clash.{clash}

-- the state and the number say the field
pub is-read : (g : Field) → is_read g ≡ true → g ≡ Read (number_in g)
is-read Empty e = clash (cc)
is-read (Heard z) e = clash (cc)
is-read (Read z) e = refl
is-read (Confirmed z) e = clash (cc)

pub is-confirmed : (g : Field) → is_confirmed g ≡ true → g ≡ Confirmed (number_in g)
is-confirmed Empty e = clash (cc)
is-confirmed (Heard z) e = clash (cc)
is-confirmed (Read z) e = clash (cc)
is-confirmed (Confirmed z) e = refl

-- a state that is none of one case
pub not-confirmed : (g : Field) → ((z : ℤ) → g ≡ Confirmed z → ⊥) → is_confirmed g ≡ false
not-confirmed Empty h = refl
not-confirmed (Heard z) h = refl
not-confirmed (Read z) h = refl
not-confirmed (Confirmed z) h = absurd (h z refl)
