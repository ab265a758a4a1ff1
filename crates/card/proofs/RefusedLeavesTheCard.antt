-- A refused call leaves the card as it was, its fields and what is kept for an undo. Of any card and any call.
use mathlib.Core.Path.{◌≡◌}
use mathlib.Core.Logic.{◌≢◌}
use Rattle.card.specs.History.{Call, after, refusal}
use Rattle.card.specs.declared.Card.{Card}
use Rattle.card.proofs.OneCall.{Step, refused, puts, step}

by-step : (c : Card) {x : Call} → refusal c x ≢ 0 → Step c x → after c x ≡ c
by-step c n (refused e h) = e
by-step c n (puts g v l i r e w h) = absurd (n r)

pub refused-leaves : (c : Card) (x : Call) → refusal c x ≢ 0 → after c x ≡ c
refused-leaves c x n = by-step c n (step c x)
