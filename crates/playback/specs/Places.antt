-- Where logical coordinates lie on the surface.
use Rattle.std.specs.Prelude.{◌+ℤ◌, ◌-ℤ◌}
use Rattle.drawing.specs.declared.shape.Area.{Area}
use Rattle.drawing.specs.declared.shape.Point.{Point}
use Rattle.surface.specs.declared.rect.Rect.{Rect}
use Rattle.metafile.specs.declared.logical.LogicalArea.{LogicalArea}
use Rattle.metafile.specs.declared.logical.LogicalPoint.{LogicalPoint}
use Rattle.playback.specs.declared.context.Origins.{Origins}

-- a logical point, less the window origin, plus the viewport origin
abbrev pub device : Origins → LogicalPoint → Point
device o p = record {
  x = (p.x -ℤ o.window.x) +ℤ o.viewport.x;
  y = (p.y -ℤ o.window.y) +ℤ o.viewport.y;
}

-- width and height do not move
abbrev pub device_area : Origins → LogicalArea → Area
device_area o a = record { x = (device o a.at).x; y = (device o a.at).y; w = a.width; h = a.height }

abbrev pub device_rect : Origins → LogicalPoint → LogicalPoint → Rect
device_rect o p q = record { left = (device o p).x; top = (device o p).y; right = (device o q).x; bottom = (device o q).y }
