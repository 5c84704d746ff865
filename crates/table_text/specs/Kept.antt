-- What the code keeps of the numbers of a size table: those that pass their test.
use Rattle.std.specs.Prelude.{◌≡◌, ℕ, ℤ, true, pos, Bool, int_le, if◌then◌else◌, Result, Err, Option, Some, None, ◌&&◌}
use Rattle.std.specs.Result.{result_map_both}
use Rattle.pf_geom.specs.declared.Point.{Point}
use Rattle.pf_geom.specs.Plane.{IsInRange}
use Rattle.pf_model.specs.declared.Band.{Band}
use Rattle.pf_model.specs.Conforming.{holds}
use Rattle.table_text.specs.Size.{length_limit, band_of, band_where}
use Rattle.table_text.specs.declared.size.Rectangle.{Rectangle}
use Rattle.table_text.specs.declared.size.LengthRange.{LengthRange}
use Rattle.table_text.specs.declared.fault.TableErr.{TableErr}
use Rattle.table_text.specs.declared.fault.TableErr.TheVariants as fault

-- the value, where it passes the test
abbrev pub kept : {A : Type 0} → (A → Bool) → A → Option A
kept passes value = if passes value then Some value else None

-- what was read, where it passes the test; the fault stays
abbrev pub kept_in : {A : Type 0} → (A → Bool) → Result A TableErr → Result (Option A) TableErr
kept_in passes read = result_map_both (kept passes) (λ fault. fault) read

-- the squared length is in range
abbrev pub is_length : ℤ → Bool
is_length z = int_le z (pos length_limit)

-- two values put together, where both were kept and what they make passes the test
abbrev pub both : {A B C : Type 0} → (C → Bool) → (A → B → C) → Option A → Option B → Option C
both passes make (Some x) (Some y) = kept passes (make x y)
both passes make (Some x) None = None
both passes make None other = None

-- a corner of two coordinates
abbrev pub corner_with : ℤ → ℤ → Point
corner_with x y = record { x = x; y = y }

-- a rectangle of two corners
abbrev pub rectangle_with : Point → Point → Rectangle
rectangle_with low high = record { low = low; high = high }

-- the low corner is neither right of the high one nor above it
abbrev pub are_corners_ordered : Rectangle → Bool
are_corners_ordered r = int_le r.low.x r.high.x && int_le r.low.y r.high.y

-- the band, where rectangle and lengths were kept and the line may stand there
abbrev pub band_kept : Bool → ℕ → Option Rectangle → Option LengthRange → Result Band TableErr
band_kept may_stand line (Some r) (Some l) = band_where may_stand line (band_of r l)
band_kept may_stand line (Some r) None = Err (fault.Band line)
band_kept may_stand line None lengths = Err (fault.Band line)

-- the band holds every point
abbrev pub HoldsAll : Band → Type 0
HoldsAll band = (p : Point) → IsInRange p → holds band p ≡ true
