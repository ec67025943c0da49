-- A hit of a block that isn't zeros makes a read of the flash, and no other reference is a hit.
use Rattle.std.proofs.Common.{◌≡◌, ◌≢◌, ℕ, ◌≤◌, Bool, true, false, List, Ok, Err, sym, ◌∙◌, subst, if◌then◌else◌}
use Rattle.std.specs.Prelude.{Result, IfOk}
use Rattle.dd_rig.specs.Counts.{count_read, Rose}
use Rattle.dd_rig.specs.declared.device.Dev.TheVariants.{Flash}
use Rattle.dd_rig.specs.declared.tallies.Counts.{Counts}
use Rattle.dd_model.specs.declared.done.Done.{Done}
use Rattle.dd_model.specs.declared.kind.Kind.TheVariants.{Hit, Join, Miss, Dup, New}
use Rattle.dd_model.specs.State.{is_zero_block}
use Rattle.dd_store.specs.declared.fault.StoreFault.{StoreFault}

known_kind : (dirty : Bool) → (if dirty then Dup else Join) ≢ Hit
known_kind true = λ is. cc is
known_kind false = λ is. cc is

fresh_kind : (dirty : Bool) → (if dirty then New else Miss) ≢ Hit
fresh_kind true = λ is. cc is
fresh_kind false = λ is. cc is

-- a reference with a listed block or with zeros that isn't told by a record Hit
pub known_no_hit : (dirty : Bool) (result : Result Done StoreFault) → IfOk result (λ done. done.kind ≡ (if dirty then Dup else Join)) → IfOk result (λ done. done.kind ≢ Hit)
known_no_hit dirty (Ok done) is = λ hit. known_kind dirty (sym is ∙ hit)
known_no_hit dirty (Err fault) is = tt

-- one with a new block
pub fresh_no_hit : (dirty : Bool) (result : Result Done StoreFault) → IfOk result (λ done. done.kind ≡ (if dirty then New else Miss)) → IfOk result (λ done. done.kind ≢ Hit)
fresh_no_hit dirty (Ok done) is = λ hit. fresh_kind dirty (sym is ∙ hit)
fresh_no_hit dirty (Err fault) is = tt

pub hit_never : (P Q : Type 0) (result : Result Done StoreFault) → IfOk result (λ done. done.kind ≢ Hit) → IfOk result (λ done. done.kind ≡ Hit → Q → P)
hit_never P Q (Ok done) never = λ hit. absurd (never hit)
hit_never P Q (Err fault) never = tt

-- behind a read of the flash
pub hit_rose : {T E : Type 0} (Q : Type 0) (before middle after : Counts) (read : Result T E) → middle ≡ count_read Flash read before → middle.flash.reads ≤ after.flash.reads → (result : Result Done StoreFault)
    → IfOk result (λ done. done.kind ≡ Hit → Q → Rose before.flash.reads after.flash.reads)
hit_rose Q before middle after read counted grows (Ok done) = λ hit some. subst (λ (c : Counts). c.flash.reads ≤ after.flash.reads) counted grows
hit_rose Q before middle after read counted grows (Err fault) = tt

-- zeros aren't read
pub hit_zeros : (P : Type 0) (block : List ℕ) → is_zero_block block ≡ true → (result : Result Done StoreFault) → IfOk result (λ done. done.kind ≡ Hit → is_zero_block block ≡ false → P)
hit_zeros P block zeros (Ok done) = λ hit some. absurd (cc (sym some ∙ zeros))
hit_zeros P block zeros (Err fault) = tt
