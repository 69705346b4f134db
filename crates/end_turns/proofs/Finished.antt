-- Where the turns end, and the closing orders stand on them.
use Rattle.std.proofs.Common.{◌≡◌, ◌<◌, ℕ, Bool, true, false, List, [], ◌∷◌, ◌++◌, Option, Some, None, Result, Ok, Err, refl, sym, ap, subst, ◌∙◌, arith, inl, inr}
use Rattle.std.specs.Prelude.{OnOk, OnErr, IsSome, is_ok, MatchBool}
use Rattle.charge_world.specs.declared.entry.Entry.{Entry}
use Rattle.charge_world.specs.Outside.{IsFault, AppendsSome}
use Rattle.trace_text.specs.Pasts.{first_line_2}
use Rattle.endpoint.specs.Knowing.{Known, known_first}
use Rattle.endpoint.specs.Telling.{Carries, CarriesText, HasClosing, IsCutFirst, IsClosedSo, IsTraced}
use Rattle.endpoint.proofs.Carry.{text_to}
use Rattle.endpoint.proofs.Faults.{fault_ok}
use Rattle.endpoint.proofs.Knowing.{newest_closing, hearings_closing, last_closing}
use Rattle.endpoint.proofs.Written.{begin_cut}
use Rattle.end_turns.specs.declared.ending.Ended.{Ended}
use Rattle.end_turns.specs.declared.ending.Ended.TheVariants as ended
use Rattle.end_turns.specs.declared.ending.Last.{Last}
use Rattle.end_turns.specs.declared.ending.Last.TheVariants.{Over, Lost, Turns}
use Rattle.end_turns.specs.Ending.{is_whole, EndedAs, HasRun, TracedAs, AreFaults}
use Rattle.end_turns.specs.Lasts.{ended_by, ended_so}
use Rattle.end_turns.specs.Turns.{Stops, IsFinished, ClosedText}

-- ---- from where the turns end to what they made

last_whole : (last : Last) → is_whole (ended_by last) ≡ true
last_whole Over = refl
last_whole Lost = refl
last_whole Turns = refl

-- the end rests where each line was written
rests_so : {E : Type 0} (last : Result Last E) (how : Ended) (Rests : Type 0) → OnOk last Rests → IsFinished last how → MatchBool (is_whole how) Rests (Unit {0})
rests_so (Ok last) how Rests rests (inl e) = rw e (rw (last_whole last) rests)
rests_so (Err fault) how Rests rests (inl e) = rw e tt
rests_so last how Rests rests (inr e) = rw e tt

ended_how : {E : Type 0} (turns : ℕ) (over : Bool) (last : Result Last E) (how : Ended) (past : List Entry) → IsFinished last how → EndedAs turns over (ended_so last) past → EndedAs turns over how past
ended_how turns over last how past (inl e) h = subst (λ (x : Ended). EndedAs turns over x past) (sym e) h
ended_how turns over last how past (inr e) h = subst (λ (x : Ended). EndedAs turns over x past) (sym e) tt

-- over both calls
pub run_closed : {E : Type 0} (a m b : Option (List Entry)) (Runs : Known → List Entry → Type 0) (Closes : Bool → List Entry → List Entry → Type 0) (Rests : Type 0) (turns : ℕ) (over : Bool) (last : Result Last E) (how : Ended)
    (waited before later : List ℕ) (P : List Entry → Type 0) → OnOk last Rests → IsFinished last how → Carries a m P (Stops Runs turns over (ended_so last) waited before)
    → ((blocks : List Entry) → Carries m b (λ past. past ≡ blocks) (Closes (is_whole how) blocks)) → ((blocks : List Entry) → Carries m b (λ past. past ≡ blocks) (HasClosing blocks))
    → (IsSome b → later ≡ waited) → Carries a b P (HasRun Runs Closes Rests turns over how before later)
run_closed a m None Runs Closes Rests turns over last how waited before later P rests finished stops closes orders same = tt
run_closed a None (Some past) Runs Closes Rests turns over last how waited before later P rests finished stops closes orders same = absurd (orders [])
run_closed None (Some mid) (Some past) Runs Closes Rests turns over last how waited before later P rests finished stops closes orders same = absurd stops
run_closed (Some old) (Some mid) (Some past) Runs Closes Rests turns over last how waited before later P rests finished stops closes orders same = λ p.
    let h : Stops Runs turns over (ended_so last) waited before mid = stops p in
    record {
      known = h.known;
      blocks = mid;
      run = h.run;
      closes = closes mid refl;
      orders = orders mid refl;
      rests = rests_so last how Rests rests finished;
      ended = ended_how turns over last how mid finished h.ended;
      untils_are = same refl ∙ h.waited_are;
    }

-- nothing is heard
pub none_run : (Runs : Known → List Entry → Type 0) (Closes : Bool → List Entry → List Entry → Type 0) (Rests : Type 0) (turns : ℕ) (over : Bool) (before : List ℕ) (past : List Entry) → ((blocks : List Entry) → Closes false blocks blocks)
    → Runs known_first past → HasRun Runs Closes Rests turns over ended.TraceFault before before past
none_run Runs Closes Rests turns over before past idle run = record {
  known = known_first;
  blocks = past;
  run = run;
  closes = idle past;
  orders = record { later = []; past_is = refl; closing = tt };
  rests = tt;
  ended = tt;
  untils_are = refl;
}

-- the past ended as its blocks did
pub ended_past : (turns : ℕ) (over : Bool) (how : Ended) (blocks past : List Entry) → HasClosing blocks past → EndedAs turns over how blocks → EndedAs turns over how past
ended_past turns over ended.Over blocks past h e = (e.0, e.1, newest_closing blocks past h ∙ e.2, e.3)
ended_past turns over ended.Lost blocks past h e = newest_closing blocks past h ∙ e
ended_past turns over ended.TraceFault blocks past h e = tt
ended_past turns over ended.Turns blocks past h e = (λ lives. hearings_closing blocks past h ∙ e.0 lives, last_closing blocks past h ∙ e.1)

-- ---- the trace

pub closed_text : (how : Ended) (hearing : ℕ) (past : List Entry) (text : List ℕ) → ClosedText how hearing past text → TracedAs how past text
closed_text ended.Over hearing past text t = t.text_is
closed_text ended.Lost hearing past text t = t.text_is
closed_text ended.TraceFault hearing past text t = inr t
closed_text ended.Turns hearing past text t = t.text_is

last_text : (last : Last) (hearing : ℕ) (past : List Entry) (text : List ℕ) → IsTraced hearing past text → ClosedText (ended_by last) hearing past text
last_text Over hearing past text t = t
last_text Lost hearing past text t = t
last_text Turns hearing past text t = t

pub begin_failed : (a : Option (List Entry)) (s t : Option (List ℕ)) → AppendsSome s t first_line_2 → CarriesText a a s t (λ past text. (past ≡ []) × (text ≡ [])) (TracedAs ended.TraceFault)
begin_failed a s t h = text_to a a s t (λ past text. (past ≡ []) × (text ≡ [])) IsCutFirst (TracedAs ended.TraceFault) (λ past text c. inl c) (begin_cut a s t h)

-- ---- counts of faults

no_fault : (last : Last) → ended_by last ≡ ended.TraceFault → ⊥
no_fault Over e = cc
no_fault Lost e = cc
no_fault Turns e = cc

pub closed_faults : {T E F : Type 0} (start mid after : ℕ) (last : Last) (x : T) (r : Result (Unit {0}) F) (how : Ended) → IsFault {T = T} {E = E} start mid (Ok x) → IsFault mid after r
    → OnOk r (how ≡ ended_by last) → OnErr r (how ≡ ended.TraceFault) → AreFaults start after how
closed_faults start mid after why x (Ok done) how before f ok err =
    let behind : after ≡ mid = fault_ok mid after done f in
    let between : mid ≡ start = fault_ok start mid x before in
    record { later = omega (arith, behind, between); risen = (λ e. absurd (no_fault why (sym ok ∙ e)), λ l. absurd (omega (arith, behind, between, l))) }
closed_faults start mid after why x (Err fault) how before f ok err = record {
  later = omega (arith, before.later, f.later);
  risen = (λ e. omega (arith, before.later, f.risen.0 refl), λ l. err);
}

pub turn_faults : {T E : Type 0} (start after : ℕ) (fault : E) → IsFault {T = T} {E = E} start after (Err fault) → AreFaults start after ended.TraceFault
turn_faults start after fault f = record { later = f.later; risen = (λ e. f.risen.0 refl, λ l. refl) }

pub faults_behind : (start mid after : ℕ) (how : Ended) → mid ≡ start → AreFaults mid after how → AreFaults start after how
faults_behind start mid after how e f = subst (λ (n : ℕ). AreFaults n after how) e f

-- ---- how the turns stop, by the writes of the closing orders' lines

pub closes_written : {E : Type 0} (written : Result (Unit {0}) E) (last : Last) (how : Ended) → OnOk written (how ≡ ended_by last) → OnErr written (how ≡ ended.TraceFault) → is_ok written ≡ is_whole how
closes_written (Ok done) last how ok err = sym (ap is_whole ok ∙ last_whole last)
closes_written (Err fault) last how ok err = sym (ap is_whole err)

pub finished_by : {E : Type 0} (F : Type 0) (written : Result (Unit {0}) E) (last : Last) (how : Ended) → OnOk written (how ≡ ended_by last) → OnErr written (how ≡ ended.TraceFault) → IsFinished {E = F} (Ok last) how
finished_by F (Ok done) last how ok err = inl ok
finished_by F (Err fault) last how ok err = inr err

pub written_text : {E : Type 0} (written : Result (Unit {0}) E) (last : Last) (how : Ended) (hearing : ℕ) (past : List Entry) (text : List ℕ) → OnOk written (how ≡ ended_by last) → OnErr written (how ≡ ended.TraceFault)
    → IsClosedSo hearing written past text → ClosedText how hearing past text
written_text (Ok done) last how hearing past text ok err t = subst (λ (x : Ended). ClosedText x hearing past text) (sym ok) (last_text last hearing past text t)
written_text (Err fault) last how hearing past text ok err t = subst (λ (x : Ended). ClosedText x hearing past text) (sym err) t

-- the turns are lost where a hearing was
pub lost_last : {E : Type 0} (last : Result Last E) (how : Ended) → IsFinished last how → how ≡ ended.Lost → last ≡ Ok Lost
lost_last (Ok Lost) how f h = refl
lost_last (Ok Over) how (inl e) h = let x : ended.Over ≡ ended.Lost = sym e ∙ h in cc
lost_last (Ok Turns) how (inl e) h = let x : ended.Turns ≡ ended.Lost = sym e ∙ h in cc
lost_last (Err fault) how (inl e) h = let x : ended.TraceFault ≡ ended.Lost = sym e ∙ h in cc
lost_last last how (inr e) h = let x : ended.TraceFault ≡ ended.Lost = sym e ∙ h in cc
