use Rattle.std.proofs.Common.{◌≡◌, ℕ, Some, slice_get, refl, subst, arith}
use Rattle.charge_world.specs.declared.heard.PlantEvent.{PlantEvent}
use Rattle.plant_sim.specs.Charger.{events}
use Rattle.plant_sim.proofs.charger.Sim.next.Goals as goal

-- equal voltages give equal events
event_at : (v w current place : ℕ) (e : PlantEvent) → v ≡ w → slice_get (events v current) place ≡ Some e → slice_get (events w current) place ≡ Some e
event_at v w current place e same h = subst (λ (x : ℕ). slice_get (events x current) place ≡ Some e) same h

pub returns : goal.returns
returns c = rw (← c.self.view_is) (record {
  place = c.in_ok-place.place;
  moment = c.in_ok-place.moment;
  first = c.in_ok-place.ensures.some;
  reached = omega arith;
  event = (
    c.current_of-current.result,
    rw c.moved-voltage.ensures at c.current_of-current.ensures,
    event_at _ _ _ _ _ c.moved-voltage.ensures c.event_of-event.ensures,
  );
  after = rw c.voltage_after-self-inside.ensures refl;
})
