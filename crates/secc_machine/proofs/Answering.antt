-- What is to be done about a request, from what the calls answer.
use Rattle.std.proofs.Common.{◌≡◌, ℕ, Bool, true, false, if◌then◌else◌, List, Option, Some, None, refl, sym, ap, subst, ◌∙◌}
use Rattle.std.specs.Prelude.{MatchBool}
use Rattle.std.specs.Option.{option_map}
use Rattle.charge_world.specs.declared.offer.Dialect.{Dialect}
use Rattle.charge_world.specs.declared.ports.Order.{Order}
use Rattle.session_words.specs.declared.cause.EndCause.{EndCause}
use Rattle.session_words.specs.declared.facts.Facts.{Facts}
use Rattle.session_words.specs.declared.plan.PostPlan.{PostPlan}
use Rattle.session_words.specs.declared.word.Reply.{Reply}
use Rattle.session_words.specs.declared.word.Request.{Request}
use Rattle.session_rules.specs.Moves.{stage_behind}
use Rattle.session_rules.specs.Orders.{order_of}
use Rattle.session_rules.specs.Reply.{reply_to}
use Rattle.session_rules.specs.Stages.{is_waiting}
use Rattle.secc_rows.specs.Ends.{end_of, reply_at_once}
use Rattle.post_spec.specs.Codecs.{Judged, Asked, Negotiated, WrongSide, Refused}
use Rattle.station_spec.specs.States.{Spoken, Said, Agenda, Session, State, Wording, nothing}
use Rattle.station_spec.specs.Judging.{order_by, asked_agenda, asked_session, taken_in, shows, asked_behind, IsShown}
use Rattle.station_spec.specs.Sharing.{Post as SitePost, Shows}
use Rattle.secc_machine.specs.Views.{facts_in, asks_in, IsShownFor}

-- what is to be done about a request, from its ruling
reply_if : (b : Bool) (d : Dialect) (r : Reply) → option_map (Said d) (if b then None else Some r) ≡ (if b then None else Some (Said d r))
reply_if true d r = refl
reply_if false d r = refl

pub agenda_is : (session : Session) (plan : PostPlan) (s : State) (r : Request) (shown : ℕ)
    (d : Dialect) (cause : Option EndCause) (order placed : Option Order) (reply : Option Reply) (spoken : Option Spoken) (result : Agenda)
    → d ≡ session.stage.dialect → cause ≡ end_of session.stage s.facts plan r
    → order ≡ order_of session.stage s.facts plan r shown → placed ≡ order_by cause s.live order
    → reply ≡ reply_at_once session.stage s.facts plan r shown → spoken ≡ option_map (Said d) reply
    → result ≡ record nothing { order = placed; reply = spoken; ending = cause }
    → result ≡ asked_agenda session plan s r shown
agenda_is session plan s r shown d cause order placed reply spoken result di c o p re sp h =
    let waits = is_waiting (stage_behind session.stage s.facts plan r shown).row in
    rw (h, sp, re, p, o, c, di)
    (ap (λ (x : Option Spoken). record nothing { order = order_by (end_of session.stage s.facts plan r) s.live (order_of session.stage s.facts plan r shown); reply = x; ending = end_of session.stage s.facts plan r })
    (reply_if waits session.stage.dialect (reply_to session.stage s.facts plan r shown)))

-- it goes by the facts, and by whether the contactor is live
pub agenda_in : (session : Session) (plan : PostPlan) (s : State) (r : Request) (shown : ℕ) (facts : Facts) (live : Bool) (result : Agenda) → s.facts ≡ facts → s.live ≡ live
    → result ≡ asked_agenda session plan (record s { facts = facts; live = live }) r shown → result ≡ asked_agenda session plan s r shown
agenda_in session plan s r shown facts live result f l h =
    h ∙ ap (λ (x : Facts). asked_agenda session plan (record s { facts = x; live = live }) r shown) (sym f)
    ∙ ap (λ (x : Bool). asked_agenda session plan (record s { live = x }) r shown) (sym l)

-- the post behind a request
some_by : (session : Option Session) (plan : PostPlan) (s : State) (r : Request) (shown : ℕ) (slot : Option Session) (facts : Facts) (agenda : Agenda)
    → slot ≡ option_map (λ (x : Session). asked_session x plan s r shown) session → facts ≡ facts_in session s.facts plan r
    → Some agenda ≡ option_map (λ (x : Session). asked_agenda x plan s r shown) session
    → record s { part = Wording; facts = facts; session = slot; agenda = agenda } ≡ taken_in plan s session (record { judged = Asked r; shown = shown })
some_by None plan s r shown slot facts agenda sl f a = cc
some_by (Some x) plan s r shown slot facts agenda sl f a =
    let is : agenda ≡ asked_agenda x plan s r shown = cc in
    rw (sl, f, is) refl

pub answered_some : (old inside : State) (plan : PostPlan) (r : Request) (shown : ℕ) (slot : Option Session) (facts : Facts) (agenda : Agenda) → inside ≡ old
    → slot ≡ option_map (λ (x : Session). asked_session x plan inside r shown) inside.session → facts ≡ facts_in inside.session inside.facts plan r
    → Some agenda ≡ option_map (λ (x : Session). asked_agenda x plan inside r shown) inside.session
    → record inside { part = Wording; facts = facts; session = slot; agenda = agenda } ≡ taken_in plan old old.session (record { judged = Asked r; shown = shown })
answered_some old inside plan r shown slot facts agenda view sl f a =
    some_by inside.session plan inside r shown slot facts agenda sl f a
    ∙ ap (λ (s : State). taken_in plan s s.session (record { judged = Asked r; shown = shown })) view

none_by : (session : Option Session) (plan : PostPlan) (s : State) (r : Request) (shown : ℕ) (slot : Option Session) (facts : Facts)
    → s.session ≡ session → slot ≡ option_map (λ (x : Session). asked_session x plan s r shown) session → facts ≡ facts_in session s.facts plan r
    → None ≡ option_map (λ (x : Session). asked_agenda x plan s r shown) session
    → record s { facts = facts; session = slot } ≡ taken_in plan s session (record { judged = Asked r; shown = shown })
none_by None plan s r shown slot facts e sl f a = rw (sl, f) (ap (λ (x : Option Session). record s { session = x }) (sym e))
none_by (Some x) plan s r shown slot facts e sl f a = cc

pub answered_none : (old inside : State) (plan : PostPlan) (r : Request) (shown : ℕ) (slot : Option Session) (facts : Facts) → inside ≡ old
    → slot ≡ option_map (λ (x : Session). asked_session x plan inside r shown) inside.session → facts ≡ facts_in inside.session inside.facts plan r
    → None ≡ option_map (λ (x : Session). asked_agenda x plan inside r shown) inside.session
    → record inside { facts = facts; session = slot } ≡ taken_in plan old old.session (record { judged = Asked r; shown = shown })
answered_none old inside plan r shown slot facts view sl f a =
    none_by inside.session plan inside r shown slot facts refl sl f a
    ∙ ap (λ (s : State). taken_in plan s s.session (record { judged = Asked r; shown = shown })) view

-- what may be shown where the post asks for watts
shown_if : (b : Bool) (Might : ℕ → ℕ → Type 0) (asked shown : ℕ) → IsShownFor Might (if b then Some asked else None) shown
    → MatchBool b (Might asked shown) (shown ≡ 0)
shown_if true Might asked shown h = h
shown_if false Might asked shown h = h

shown_in : (Might : ℕ → ℕ → Type 0) (plan : PostPlan) (s : State) (session : Option Session) (j : Judged) (shown : ℕ)
    → IsShownFor Might (asks_in plan s session j) shown → IsShown Might plan s session j shown
shown_in Might plan s None j shown h = h
shown_in Might plan s (Some session) (Asked r) shown h = shown_if (shows session.stage plan s r) Might (asked_behind session plan s r) shown h
shown_in Might plan s (Some session) (Negotiated chosen response) shown h = h
shown_in Might plan s (Some session) WrongSide shown h = h
shown_in Might plan s (Some session) Refused shown h = h

pub is_shown : (limit : ℕ) (before behind : List SitePost) (plan : PostPlan) (s : State) (j : Judged) (asked : Option ℕ) (shown : ℕ)
    → asked ≡ asks_in plan s s.session j → IsShownFor (Shows limit before behind) asked shown
    → IsShown (Shows limit before behind) plan s s.session j shown
is_shown limit before behind plan s j asked shown e h =
    shown_in (Shows limit before behind) plan s s.session j shown
    (subst (λ (x : Option ℕ). IsShownFor (Shows limit before behind) x shown) e h)
