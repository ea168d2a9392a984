-- A strand that stops.
use Rattle.laws_order.specs.KeptOrder.{Hand, is_idle, is_off_switch, put_back}
use Rattle.laws_order.specs.Pieces.{KeepsOrder}
use Rattle.std.specs.Prelude.{true, ◌≡◌}
use Rattle.machine_data.specs.Core.{Core}
use Rattle.machine_data.specs.declared.component.Component.{Component}
use Rattle.machine_data.specs.declared.records.Turn.{Turn}

-- while no thread runs order is kept, whatever is in hand that wasn't at switch
abbrev pub StopsInOrder : Core → Core → Type 0
StopsInOrder s t = (c : Component) (p : Turn) (h : Hand) → is_idle p ≡ true → is_off_switch h ≡ true →
    KeepsOrder c p (put_back h s) p (put_back h t)
