-- The output along a run of calls: what was said stands.
use Rattle.std.proofs.Common.{◌≡◌, List, [], ℕ, ◌++◌, take, sym, ◌∙◌, ap, append-nil, append_assoc}
use Rattle.dd_rig.specs.World.{World, SaysSome}
use Rattle.dd_loop.specs.Saying.{SaysMore}

-- a call that says nothing
pub more_same : (old new : World) → new.said ≡ old.said → SaysMore old new
more_same old new same = record { more = []; said = same ∙ sym (append-nil old.said) }

-- one call after another
pub more_both : (one two three : World) → SaysMore one two → SaysMore two three → SaysMore one three
more_both one two three h k = record { more = h.more ++ k.more; said = k.said ∙ ap (λ (said : List ℕ). said ++ k.more) h.said ∙ append_assoc one.said h.more k.more }

-- a piece, in whole or in part
pub more_some : (piece : List ℕ) (old new : World) → SaysSome piece old new → SaysMore old new
more_some piece old new s = record { more = take s.0 piece; said = ap (λ (w : World). w.said) s.1 }
