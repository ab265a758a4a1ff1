-- The bodies that a shot knows, by their numbers.
use Rattle.std.specs.Prelude.{◌≡◌, false, ℤ, pos, Result, MatchResult}
use Rattle.refusal.specs.declared.Refusal.{Refusal}
use Rattle.refusal.specs.declared.Refusal.TheVariants.{NoBody}
use Rattle.fieldbook.specs.Shot.{is_body}
use Rattle.fieldbook.specs.declared.Body.{Body}
use Rattle.fieldbook.specs.declared.Body.TheVariants.{Sun, Polaris}

-- field 10 of each
abbrev pub body_number : Body → ℤ
body_number Sun = pos 1
body_number Polaris = pos 2

-- what a number is answered with: the body of that number, or refusal 6 where it is none's
abbrev pub Decodes : ℤ → Result Body Refusal → Type 0
Decodes number r = MatchResult r (λ body. body_number body ≡ number) (λ refusal. (refusal ≡ NoBody) × (is_body number ≡ false))
