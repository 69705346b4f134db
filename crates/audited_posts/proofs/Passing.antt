-- A post behind an entry, of whichever kind it is.
use Rattle.std.proofs.Common.{◌≡◌, ℕ, max, ◌==◌, Bool, true, false, List, ◌∷◌, None, refl, sym, ap, subst, ◌∙◌}
use Rattle.std.specs.Prelude.{if◌then◌else◌, MatchBool}
use Rattle.charge_world.specs.declared.entry.Entry.{Entry}
use Rattle.charge_world.specs.declared.entry.Entry.TheVariants as entry
use Rattle.charge_world.specs.declared.heard.Heard.{Heard as Hearing}
use Rattle.charge_world.specs.declared.ports.Order.{Order}
use Rattle.session_words.specs.declared.plan.PostPlan.{PostPlan}
use Rattle.post_spec.specs.Steps.{Give, Send, Answer, End, Seen, Heard, Did, event_at, moment, seen}
use Rattle.told_pasts.specs.Spelling.{ToldCodecs}
use Rattle.told_pasts.specs.Steps.{ToldStep, Hears, Does, Sends, seen_in}
use Rattle.audit_course.specs.Values.{IsNextWord}
use Rattle.audit_posts.specs.declared.stepping.About.{About}
use Rattle.audit_posts.specs.declared.values.KeptPost.{KeptPost}
use Rattle.audit_posts.specs.Steps.{StepIs}
use Rattle.audit_posts.specs.Values.{IsMost}
use Rattle.audit_posts.specs.Values as posts
use Rattle.audit_records.specs.Sayings.{AnswersSo}
use Rattle.audit_records.specs.declared.answers.Answer.{Answer as Told}
use Rattle.audit_checks.specs.Around.{sends_at}
use Rattle.audit_streams.specs.declared.reader.ToldWatts.{ToldWatts}
use Rattle.audit_streams.specs.declared.streams.ToldStream.{ToldStream}
use Rattle.audit_streams.specs.Streams as streams
use Rattle.audited_posts.specs.Posts.{WritesTold, IsToldBehind, JudgesAt, ShownAt, SaysAt, StreamsOn, Goes, Passes}
use Rattle.audited_posts.proofs.Entries.{yes, no}
use Rattle.audited_posts.proofs.Reading.{IsReadSo, read_so}
use Rattle.audited_posts.proofs.Writing.{same_writes, heard_writes, did_writes, sent_writes}

-- all that stands around an entry
pub record Place : Type 1 where
  pub c : ToldCodecs
  pub Share : ℕ → ℕ → Type 0
  pub plan : PostPlan
  pub k : ℕ
  pub past : List Entry
  pub steps : List ToldStep
  pub about : About
  pub told : ToldWatts
  pub answer : Told
  pub stream : ToldStream
  pub kept : KeptPost
  pub old : Bool
  pub writes : Bool
  pub seen_is : seen_in steps ≡ seen k past
  pub saying_is : about.saying ≡ answer.saying
  pub most_is : about.most ≡ answer.most
  pub old_is : WritesTold plan steps old
  pub told_is : IsToldBehind plan steps about.judged about.shown told
  pub next_is : (later : List ToldStep) → streams.AreOf c.words plan.dialects.items (seen_in later) stream → IsNextWord c plan later about.next

-- what is told of one entry
pub record IsTold (p : Place) (e : Entry) : Type 0 where
  pub judges : JudgesAt p.c p.plan p.k p.steps e p.about.judged
  pub shown : ShownAt p.c p.Share p.plan p.k p.steps e p.about.shown
  pub says : SaysAt p.c p.plan p.told p.k (seen_in p.steps) e p.answer
  pub writes_is : p.writes ≡ (if sends_at p.k e then p.answer.writes else p.old)
  pub on : StreamsOn p.c.words p.plan.dialects.items p.k p.past e p.stream
  pub kept_is : (later : List ToldStep) → StepIs p.c p.plan p.k p.past p.steps p.about e later → posts.AreOf p.c p.plan p.k (e ∷ p.past) later p.kept

abbrev pub IsBehind : Place → Entry → Type 0
IsBehind p e = Passes p.c p.Share p.plan p.k p.past p.steps e p.about (record { kept = p.kept; stream = p.stream; writes = p.writes })

differ : false ≡ true → ⊥
differ h = cc

told_by : {A : Type 0} (b : Bool) → (b ≡ true → A) → (b ≡ false → A) → A
told_by true t f = t refl
told_by false t f = f refl

then_of : (A B : Type 0) (b : Bool) → b ≡ true → MatchBool b A B → A
then_of A B true is m = m
then_of A B false is m = absurd (differ is)

then_is : (b x y : Bool) → b ≡ true → (if b then x else y) ≡ x
then_is true x y is = refl
then_is false x y is = absurd (differ is)

else_is : (b x y : Bool) → b ≡ false → (if b then x else y) ≡ y
else_is true x y is = absurd (differ (sym is))
else_is false x y is = refl

then_seen : (b : Bool) (xs ys : List Seen) → b ≡ true → xs ≡ (if b then xs else ys)
then_seen true xs ys is = refl
then_seen false xs ys is = absurd (differ is)

else_seen : (b : Bool) (xs ys : List Seen) → b ≡ false → ys ≡ (if b then xs else ys)
else_seen true xs ys is = absurd (differ (sym is))
else_seen false xs ys is = refl

-- the steps behind an entry are these
ends : (p : Place) (e : Entry) (later : List ToldStep) → IsTold p e → seen_in later ≡ seen p.k (e ∷ p.past) → WritesTold p.plan later p.writes → Goes p.c p.Share p.plan p.k p.past p.steps e later
    → (IsNextWord p.c p.plan later p.about.next → StepIs p.c p.plan p.k p.past p.steps p.about e later) → IsBehind p e
ends p e later t same writes goes step =
    let stream_is = subst (λ (s : List Seen). streams.AreOf p.c.words p.plan.dialects.items s p.stream) (sym same) t.on.stream_is in
    let told = step (p.next_is later stream_is) in
    record { later = later; goes = goes; told = told; are = record { kept_are = t.kept_is later told; stream_are = stream_is; writes_is = writes }; even = t.on.even }

-- ---- of each kind

heard_ends : (p : Place) (heard : Hearing) (bytes : List ℕ) → IsTold p (entry.Heard heard bytes) → IsBehind p (entry.Heard heard bytes)
heard_ends p heard bytes t =
    ends p (entry.Heard heard bytes) (Hears (max (moment p.past) heard.at) (event_at p.k heard.what bytes) ∷ p.steps) t
    (ap (λ (s : List Seen). Heard (max (moment p.past) heard.at) (event_at p.k heard.what bytes) ∷ s) p.seen_is)
    (heard_writes p.plan (max (moment p.past) heard.at) (event_at p.k heard.what bytes) p.steps p.writes) refl (λ next. record { later_is = refl; next = next })

own_sent : (p : Place) (post : ℕ) (bytes : List ℕ) (taken : Bool) → (post == p.k) ≡ true → IsTold p (entry.Sent post bytes taken)
    → IsReadSo p.c p.Share p.plan p.steps (Send bytes) p.about.judged p.about.shown → AnswersSo p.c p.plan p.told (seen_in p.steps) bytes p.answer → IsBehind p (entry.Sent post bytes taken)
own_sent p post bytes taken is t r a =
    ends p (entry.Sent post bytes taken) (Sends r.reading bytes taken a.said ∷ p.steps) t
    (ap (λ (s : List Seen). Did (Send bytes) taken ∷ s) p.seen_is ∙ then_seen (post == p.k) (Did (Send bytes) taken ∷ seen p.k p.past) (seen p.k p.past) is)
    (sent_writes p.plan p.steps p.about.judged p.about.shown p.told r.reading bytes taken a.said p.answer.writes p.writes p.told_is r.read a.answer.writes_is (t.writes_is ∙ then_is (post == p.k) p.answer.writes p.old is))
    (yes _ _ (post == p.k) is (Sends r.reading bytes taken a.said, (r.reading, a.said, r.is, a.is, refl), refl))
    (λ next. yes _ _ (post == p.k) is (record {
      reading = r.reading;
      said = a.said;
      read = r.read;
      says = p.saying_is ∙ a.answer.saying_is;
      most = subst (λ (n : ℕ). IsMost p.plan a.said n) (sym p.most_is) a.answer.most_is;
      later_is = refl;
      next = next;
    }))

other_sent : (p : Place) (post : ℕ) (bytes : List ℕ) (taken : Bool) → (post == p.k) ≡ false → IsTold p (entry.Sent post bytes taken) → IsBehind p (entry.Sent post bytes taken)
other_sent p post bytes taken is t =
    ends p (entry.Sent post bytes taken) p.steps t (p.seen_is ∙ else_seen (post == p.k) (Did (Send bytes) taken ∷ seen p.k p.past) (seen p.k p.past) is)
    (same_writes p.plan p.steps p.old p.writes (t.writes_is ∙ else_is (post == p.k) p.answer.writes p.old is) p.old_is)
    (no _ _ (post == p.k) is refl) (λ next. no _ _ (post == p.k) is refl)

sent_ends : (p : Place) (post : ℕ) (bytes : List ℕ) (taken : Bool) → IsTold p (entry.Sent post bytes taken) → IsBehind p (entry.Sent post bytes taken)
sent_ends p post bytes taken t = told_by (post == p.k)
    (λ is. own_sent p post bytes taken is t
    (read_so p.c p.Share p.plan p.steps (Send bytes) p.about.judged p.about.shown (then_of _ _ (post == p.k) is t.judges) (then_of _ _ (post == p.k) is t.shown))
    (then_of _ _ (post == p.k) is t.says))
    (λ is. other_sent p post bytes taken is t)

own_drove : (p : Place) (post : ℕ) (given : Order) (taken : Bool) → (post == p.k) ≡ true → IsTold p (entry.Drove post given taken)
    → IsReadSo p.c p.Share p.plan p.steps (Give given) p.about.judged p.about.shown → IsBehind p (entry.Drove post given taken)
own_drove p post given taken is t r =
    ends p (entry.Drove post given taken) (Does r.reading (Give given) taken ∷ p.steps) t
    (ap (λ (s : List Seen). Did (Give given) taken ∷ s) p.seen_is ∙ then_seen (post == p.k) (Did (Give given) taken ∷ seen p.k p.past) (seen p.k p.past) is)
    (did_writes p.plan r.reading (Give given) taken p.steps p.writes)
    (yes _ _ (post == p.k) is (Does r.reading (Give given) taken, (r.reading, r.is, refl), refl))
    (λ next. yes _ _ (post == p.k) is (record { reading = r.reading; read = r.read; later_is = refl; next = next }))

other_drove : (p : Place) (post : ℕ) (given : Order) (taken : Bool) → (post == p.k) ≡ false → IsTold p (entry.Drove post given taken) → IsBehind p (entry.Drove post given taken)
other_drove p post given taken is t =
    ends p (entry.Drove post given taken) p.steps t (p.seen_is ∙ else_seen (post == p.k) (Did (Give given) taken ∷ seen p.k p.past) (seen p.k p.past) is)
    (same_writes p.plan p.steps p.old p.writes t.writes_is p.old_is)
    (no _ _ (post == p.k) is refl) (λ next. no _ _ (post == p.k) is refl)

drove_ends : (p : Place) (post : ℕ) (given : Order) (taken : Bool) → IsTold p (entry.Drove post given taken) → IsBehind p (entry.Drove post given taken)
drove_ends p post given taken t = told_by (post == p.k)
    (λ is. own_drove p post given taken is t
    (read_so p.c p.Share p.plan p.steps (Give given) p.about.judged p.about.shown (then_of _ _ (post == p.k) is t.judges) (then_of _ _ (post == p.k) is t.shown)))
    (λ is. other_drove p post given taken is t)

answered_ends : (p : Place) (post : ℕ) (bytes : List ℕ) (taken : Bool) → IsTold p (entry.Answered post bytes taken) → IsBehind p (entry.Answered post bytes taken)
answered_ends p post bytes taken t = told_by (post == p.k)
    (λ is. ends p (entry.Answered post bytes taken) (Does None (Answer bytes) taken ∷ p.steps) t
    (ap (λ (s : List Seen). Did (Answer bytes) taken ∷ s) p.seen_is ∙ then_seen (post == p.k) (Did (Answer bytes) taken ∷ seen p.k p.past) (seen p.k p.past) is)
    (did_writes p.plan None (Answer bytes) taken p.steps p.writes)
    (yes _ _ (post == p.k) is (Does None (Answer bytes) taken, (None, (λ judged i. i.judges), refl), refl))
    (λ next. yes _ _ (post == p.k) is refl))
    (λ is. ends p (entry.Answered post bytes taken) p.steps t (p.seen_is ∙ else_seen (post == p.k) (Did (Answer bytes) taken ∷ seen p.k p.past) (seen p.k p.past) is)
    (same_writes p.plan p.steps p.old p.writes t.writes_is p.old_is)
    (no _ _ (post == p.k) is refl) (λ next. no _ _ (post == p.k) is refl))

ended_ends : (p : Place) (post cause : ℕ) → IsTold p (entry.Ended post cause) → IsBehind p (entry.Ended post cause)
ended_ends p post cause t = told_by (post == p.k)
    (λ is. ends p (entry.Ended post cause) (Does None (End cause) true ∷ p.steps) t
    (ap (λ (s : List Seen). Did (End cause) true ∷ s) p.seen_is ∙ then_seen (post == p.k) (Did (End cause) true ∷ seen p.k p.past) (seen p.k p.past) is)
    (did_writes p.plan None (End cause) true p.steps p.writes)
    (yes _ _ (post == p.k) is (Does None (End cause) true, (None, (λ judged i. i.judges), refl), refl))
    (λ next. yes _ _ (post == p.k) is refl))
    (λ is. ends p (entry.Ended post cause) p.steps t (p.seen_is ∙ else_seen (post == p.k) (Did (End cause) true ∷ seen p.k p.past) (seen p.k p.past) is)
    (same_writes p.plan p.steps p.old p.writes t.writes_is p.old_is)
    (no _ _ (post == p.k) is refl) (λ next. no _ _ (post == p.k) is refl))

pub passes : (p : Place) (e : Entry) → IsTold p e → IsBehind p e
passes p (entry.Heard heard bytes) t = heard_ends p heard bytes t
passes p entry.Lost t = ends p entry.Lost p.steps t p.seen_is (same_writes p.plan p.steps p.old p.writes t.writes_is p.old_is) refl (λ next. refl)
passes p (entry.Sent post bytes taken) t = sent_ends p post bytes taken t
passes p (entry.Answered post bytes taken) t = answered_ends p post bytes taken t
passes p (entry.Drove post given taken) t = drove_ends p post given taken t
passes p (entry.Dialed port taken) t = ends p (entry.Dialed port taken) p.steps t p.seen_is (same_writes p.plan p.steps p.old p.writes t.writes_is p.old_is) refl (λ next. refl)
passes p (entry.Ended post cause) t = ended_ends p post cause t
