-- What the test of an image has shown.
use Rattle.std.proofs.Common.{◌≡◌, ℕ, true, false, List, Ok, Err}
use Rattle.values.specs.Refusals.{outcome, numbered, caused}
use Rattle.values.specs.declared.refusal.Refusal.{Refusal}
use Rattle.values.proofs.Outcomes.{passed, failed}
use Rattle.stations.specs.Images.{good_image, tested}

pub image_passed : (ws : List ℕ) (u : Unit {0}) → outcome {A = Unit {0}} (λ u. u) (Ok u) ≡ tested ws → good_image ws ≡ true
image_passed ws u e = passed (good_image ws) 0x8313 u tt e

pub image_failed : (ws : List ℕ) (r : Refusal) → outcome {A = Unit {0}} (λ u. u) (Err r) ≡ tested ws → (good_image ws ≡ false) × (numbered r ≡ 0x8313)
image_failed ws r e = failed (good_image ws) 0x8313 (numbered r) (caused r) tt e
