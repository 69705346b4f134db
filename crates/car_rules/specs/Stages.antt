-- ISO 15118-2:2014, 8.3.3 (the identifier of a session) and 8.8.4 (the order of the requests); DIN SPEC 70121:2014. The names of the
-- phases are own.
use Rattle.std.specs.Prelude.{ℕ, List, [], ◌∷◌, replicate}
use Rattle.charge_world.specs.declared.offer.Dialect.{Dialect}
use Rattle.session_words.specs.declared.plan.CarPlan.{CarPlan}
use Rattle.session_words.specs.declared.session.SessionId.{SessionId}
use Rattle.session_rules.specs.Stages.{id_of}
use Rattle.car_rules.specs.declared.stage.CarPhase.TheVariants as phase
use Rattle.car_rules.specs.declared.stage.CarStage.{CarStage}

-- the identifier that SessionSetup has in its header: that of the session to come back to, and eight zero bytes where there is none
abbrev pub named_by : List ℕ → SessionId
named_by [] = id_of (replicate 8 0)
named_by (byte ∷ bytes) = id_of (byte ∷ bytes)

-- a dialect was chosen, and SessionSetup comes next
abbrev pub first_stage : CarPlan → Dialect → CarStage
first_stage plan dialect =
    record { phase = phase.SettingUp; dialect = dialect; session = named_by plan.session.bytes.items; cycles = 0 }
