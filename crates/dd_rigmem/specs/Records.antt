-- What is recorded of a write and of an emit.
use Rattle.std.specs.Prelude.{ℕ, List}
use Rattle.dd_rig.specs.declared.device.Dev.{Dev}

-- the bytes that its range shows after a write
pub record WriteRecord : Type 0 where
  pub dev : Dev
  pub at : ℕ
  pub bytes : List ℕ

-- a piece, and how many of its bytes came out
pub record EmitRecord : Type 0 where
  pub piece : List ℕ
  pub count : ℕ
