-- Two geometries with the same numbers are one, and these numbers have no fault.
use Rattle.std.proofs.Common.{◌≡◌, ℕ, ◌+◌, ◌*◌, ◌%◌, ◌≤◌, ap, subst, refl, None}
use Rattle.dd_block.specs.declared.geometry.Geometry.{Geometry}
use Rattle.dd_block.specs.Geometry.{geometry_fault}
use Rattle.std.proofs.lemmas.Bool.{le-leb}
use denote.Struct.Props.{props}

record Numbers : Type 0 where
  block : ℕ
  blocks : ℕ
  acap : ℕ
  bcap : ℕ
  spare : ℕ
  group : ℕ
  log : ℕ

record Ranges (n : Numbers) : Type 0 where
  block_least : 16 ≤ n.block
  block_most : n.block ≤ 4096
  block_multiple : n.block % 16 ≡ 0
  blocks_least : 1 ≤ n.blocks
  blocks_most : n.blocks ≤ 16777216
  acap_least : 1 ≤ n.acap
  acap_most : n.acap ≤ 65536
  bcap_least : 1 ≤ n.bcap
  bcap_most : n.bcap ≤ 65536
  spare_least : 1 ≤ n.spare
  spare_most : n.spare ≤ 1024
  group_least : 8 ≤ n.group
  group_most : n.group ≤ 1024
  log_least : 8 + 48 * n.group ≤ n.log
  log_most : n.log ≤ 16777216

Ranges-prop : (n : Numbers) → IsProp (Ranges n)
Ranges-prop n x y =
    let block_least_prop : IsProp (16 ≤ n.block) = hlevel props in
    let block_most_prop : IsProp (n.block ≤ 4096) = hlevel props in
    let block_multiple_prop : IsProp (n.block % 16 ≡ 0) = hlevel props in
    let blocks_least_prop : IsProp (1 ≤ n.blocks) = hlevel props in
    let blocks_most_prop : IsProp (n.blocks ≤ 16777216) = hlevel props in
    let acap_least_prop : IsProp (1 ≤ n.acap) = hlevel props in
    let acap_most_prop : IsProp (n.acap ≤ 65536) = hlevel props in
    let bcap_least_prop : IsProp (1 ≤ n.bcap) = hlevel props in
    let bcap_most_prop : IsProp (n.bcap ≤ 65536) = hlevel props in
    let spare_least_prop : IsProp (1 ≤ n.spare) = hlevel props in
    let spare_most_prop : IsProp (n.spare ≤ 1024) = hlevel props in
    let group_least_prop : IsProp (8 ≤ n.group) = hlevel props in
    let group_most_prop : IsProp (n.group ≤ 1024) = hlevel props in
    let log_least_prop : IsProp (8 + 48 * n.group ≤ n.log) = hlevel props in
    let log_most_prop : IsProp (n.log ≤ 16777216) = hlevel props in
    λ i. record {
      block_least = block_least_prop x.block_least y.block_least i;
      block_most = block_most_prop x.block_most y.block_most i;
      block_multiple = block_multiple_prop x.block_multiple y.block_multiple i;
      blocks_least = blocks_least_prop x.blocks_least y.blocks_least i;
      blocks_most = blocks_most_prop x.blocks_most y.blocks_most i;
      acap_least = acap_least_prop x.acap_least y.acap_least i;
      acap_most = acap_most_prop x.acap_most y.acap_most i;
      bcap_least = bcap_least_prop x.bcap_least y.bcap_least i;
      bcap_most = bcap_most_prop x.bcap_most y.bcap_most i;
      spare_least = spare_least_prop x.spare_least y.spare_least i;
      spare_most = spare_most_prop x.spare_most y.spare_most i;
      group_least = group_least_prop x.group_least y.group_least i;
      group_most = group_most_prop x.group_most y.group_most i;
      log_least = log_least_prop x.log_least y.log_least i;
      log_most = log_most_prop x.log_most y.log_most i;
    }

abbrev geometry_of : (n : Numbers) → Ranges n → Geometry
geometry_of n r = record {
  block = n.block;
  blocks = n.blocks;
  acap = n.acap;
  bcap = n.bcap;
  spare = n.spare;
  group = n.group;
  log = n.log;
  block_least = r.block_least;
  block_most = r.block_most;
  block_multiple = r.block_multiple;
  blocks_least = r.blocks_least;
  blocks_most = r.blocks_most;
  acap_least = r.acap_least;
  acap_most = r.acap_most;
  bcap_least = r.bcap_least;
  bcap_most = r.bcap_most;
  spare_least = r.spare_least;
  spare_most = r.spare_most;
  group_least = r.group_least;
  group_most = r.group_most;
  log_least = r.log_least;
  log_most = r.log_most;
}

abbrev numbers_of : Geometry → Numbers
numbers_of geo = record {
  block = geo.block;
  blocks = geo.blocks;
  acap = geo.acap;
  bcap = geo.bcap;
  spare = geo.spare;
  group = geo.group;
  log = geo.log;
}

abbrev ranges_of : (geo : Geometry) → Ranges (numbers_of geo)
ranges_of geo = record {
  block_least = geo.block_least;
  block_most = geo.block_most;
  block_multiple = geo.block_multiple;
  blocks_least = geo.blocks_least;
  blocks_most = geo.blocks_most;
  acap_least = geo.acap_least;
  acap_most = geo.acap_most;
  bcap_least = geo.bcap_least;
  bcap_most = geo.bcap_most;
  spare_least = geo.spare_least;
  spare_most = geo.spare_most;
  group_least = geo.group_least;
  group_most = geo.group_most;
  log_least = geo.log_least;
  log_most = geo.log_most;
}

same_at : (n m : Numbers) → n ≡ m → (r : Ranges n) (s : Ranges m) → geometry_of n r ≡ geometry_of m s
same_at n m e =
    let P : Numbers → Type 0 = λ k. (r : Ranges n) (s : Ranges k) → geometry_of n r ≡ geometry_of k s in
    subst P e (λ r s. ap (geometry_of n) (Ranges-prop n r s))

pub same_geometry : (g h : Geometry) → g.block ≡ h.block → g.blocks ≡ h.blocks → g.acap ≡ h.acap → g.bcap ≡ h.bcap → g.spare ≡ h.spare → g.group ≡ h.group → g.log ≡ h.log → g ≡ h
same_geometry g h block blocks acap bcap spare group log =
    let same : numbers_of g ≡ numbers_of h = cc in
    same_at (numbers_of g) (numbers_of h) same (ranges_of g) (ranges_of h)

-- the numbers of a geometry have no fault
pub geometry_sound : (g : Geometry) → geometry_fault g.block g.blocks g.acap g.bcap g.spare g.group g.log ≡ None
geometry_sound g = rw (
  le-leb 16 g.block g.block_least,
  le-leb g.block 4096 g.block_most,
  g.block_multiple,
  le-leb 1 g.blocks g.blocks_least,
  le-leb g.blocks 16777216 g.blocks_most,
  le-leb 1 g.acap g.acap_least,
  le-leb g.acap 65536 g.acap_most,
  le-leb 1 g.bcap g.bcap_least,
  le-leb g.bcap 65536 g.bcap_most,
  le-leb 1 g.spare g.spare_least,
  le-leb g.spare 1024 g.spare_most,
  le-leb 8 g.group g.group_least,
  le-leb g.group 1024 g.group_most,
  le-leb (8 + 48 * g.group) g.log g.log_least,
  le-leb g.log 16777216 g.log_most,
) refl
