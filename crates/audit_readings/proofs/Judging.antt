-- Which word an act answers.
use Rattle.std.proofs.Common.{◌≡◌, ◌∙◌, sym, ap, subst, refl, Bool, true, false, List, ◌∷◌, Option, Some, None}
use Rattle.std.specs.Prelude.{not, ◌&&◌, ◌↔◌, IsTrue}
use Rattle.charge_world.specs.declared.offer.Dialect.{Dialect}
use Rattle.session_words.specs.declared.plan.PostPlan.{PostPlan}
use Rattle.session_words.specs.declared.word.Request.{Request}
use Rattle.post_spec.specs.Codecs.{Judged, Negotiated, Asked, WrongSide, Refused, Codecs}
use Rattle.post_spec.specs.Kinds.{asks_start}
use Rattle.post_spec.specs.Sessions.{waits}
use Rattle.post_spec.specs.Steps.{Act, Seen}
use Rattle.post_spec.specs.Words.{HeardWord, Payload, Fault}
use Rattle.told_pasts.specs.Reading.{IsUnanswered, ActJudges}
use Rattle.told_pasts.specs.Spelling.{ToldCodecs}
use Rattle.told_pasts.specs.Steps.{ToldStep, seen_in}
use Rattle.told_pasts.specs.Talk.{is_judged}
use Rattle.audit_mandates.specs.Values.{Starts}
use Rattle.audit_streams.specs.declared.reader.ToldWord.{ToldWord}
use Rattle.audit_streams.specs.declared.reader.ToldWord.TheVariants as told
use Rattle.audit_streams.specs.declared.streams.NextWord.{NextWord}
use Rattle.audit_streams.specs.declared.streams.NextWord.TheVariants.{Nothing, Kept, BadFrame, OtherPayload}
use Rattle.audit_streams.specs.Streams.{IsTold, TellsFirst, IsKeptNext, TellsNext}
use Rattle.audit_streams.specs.Words.{IsWord}
use Rattle.audit_readings.specs.Readings.{payload_in, is_kept, is_there, IsFreeWord, IsFree, JudgesWord, JudgesSo, is_start, HasNext}

differ : {A : Type 0} (b : Bool) → b ≡ true → b ≡ false → A
differ true h k = cc
differ false h k = cc

-- The next word, where no reply waits.

kept_free : (c : Codecs) (offers : List Dialect) (past : List Seen) (o : Option ToldWord) → IsKeptNext c offers past o → IsFree c offers past o
kept_free c offers past o k =
    let here = k.next.all k.next.word k.next.next in
    subst (IsFree c offers past) (sym k.own_is) (record {
      word = k.next.word;
      kept_is = subst (IsWord k.own) (sym here.0) k.word_is;
      next = k.next.next;
      free = here.1;
      only = λ other n. (k.next.all other n).0 ∙ sym here.0;
    })

pub free_kept : (c : Codecs) (offers : List Dialect) (past : List Seen) (o p : Option ToldWord) (r : NextWord) → is_kept r ≡ true → p ≡ o → TellsNext c offers past o r → IsFree c offers past p
free_kept c offers past o p Nothing is e t = cc
free_kept c offers past o p Kept is e t = subst (IsFree c offers past) (sym e) (kept_free c offers past o t)
free_kept c offers past o p BadFrame is e t = cc
free_kept c offers past o p OtherPayload is e t = cc

pub free_none : (c : Codecs) (offers : List Dialect) (past : List Seen) (o : Option ToldWord) (r : NextWord) → is_kept r ≡ false → TellsNext c offers past o r → IsFree c offers past None
free_none c offers past o Nothing is t = λ word n still. t word n
free_none c offers past o Kept is t = cc
free_none c offers past o BadFrame is t = λ word n still. differ (waits n.es) (t.1.all word n).1 still
free_none c offers past o OtherPayload is t = λ word n still. differ (waits n.es) (t.all word n).1 still

pub there_next : (c : Codecs) (offers : List Dialect) (past : List Seen) (o : Option ToldWord) (r : NextWord) → TellsNext c offers past o r → IsTrue (is_there r) ↔ HasNext c offers past
there_next c offers past o Nothing t = (λ is. cc, λ h. absurd (t h.0 h.1))
there_next c offers past o Kept t = (λ is. (t.next.word, t.next.next), λ h. refl)
there_next c offers past o BadFrame t = (λ is. (t.1.word, t.1.next), λ h. refl)
there_next c offers past o OtherPayload t = (λ is. (t.word, t.next), λ h. refl)

-- The act that answers it.

judged_one : (c : ToldCodecs) (plan : PostPlan) (steps : List ToldStep) (act : Act) (kept : ToldWord) (j : Judged) → IsWord kept (Payload j) → (f : IsFreeWord c.words plan.dialects.items (seen_in steps) kept) → f.word ≡ Payload j → is_judged steps ≡ false → ActJudges plan steps act → JudgesWord c plan steps act kept
judged_one c plan steps act kept j is f e unread judges = record {
  judged = j;
  kept_is = is;
  is = record {
    next = record { es = f.next.es; words = f.next.words; hearing = f.next.hearing; rest = f.next.rest; next = f.next.next ∙ ap (λ (x : HeardWord). x ∷ f.next.rest) e };
    free = f.free;
    unread = unread;
    judges = judges;
  };
  only = λ other o. let x : Payload other ≡ Payload j = f.only (Payload other) o.next ∙ e in cc;
}

pub judges_free : (c : ToldCodecs) (plan : PostPlan) (steps : List ToldStep) (act : Act) (o : Option ToldWord) → IsFree c.words plan.dialects.items (seen_in steps) o → is_judged steps ≡ false → ActJudges plan steps act → JudgesSo c plan steps act (payload_in o)
judges_free c plan steps act None f unread judges = λ judged j. f (Payload judged) j.next j.free
judges_free c plan steps act (Some (told.BadFrame fault)) f unread judges = λ judged j. let x : Payload judged ≡ Fault fault = f.only (Payload judged) j.next ∙ f.kept_is in absurd (cc)
judges_free c plan steps act (Some (told.Negotiated chosen)) f unread judges =
    judged_one c plan steps act (told.Negotiated chosen) (Negotiated chosen f.kept_is.0) (f.kept_is.0, refl) f f.kept_is.1 unread judges
judges_free c plan steps act (Some (told.Asked request)) f unread judges = judged_one c plan steps act (told.Asked request) (Asked request) refl f f.kept_is unread judges
judges_free c plan steps act (Some told.WrongSide) f unread judges = judged_one c plan steps act told.WrongSide WrongSide refl f f.kept_is unread judges
judges_free c plan steps act (Some told.Refused) f unread judges = judged_one c plan steps act told.Refused Refused refl f f.kept_is unread judges

may_parts : (judged judges : Bool) → (not judged && judges) ≡ true → (judged ≡ false) × (judges ≡ true)
may_parts false true e = (refl, refl)
may_parts false false e = cc
may_parts true judges e = cc

may_none : (judged judges : Bool) → (not judged && judges) ≡ false → judged ≡ false → judges ≡ true → ⊥
may_none false true e f h = absurd (cc)
may_none false false e f h = absurd (cc)
may_none true judges e f h = absurd (cc)

pub judges_told : (c : ToldCodecs) (plan : PostPlan) (steps : List ToldStep) (act : Act) (judged judges : Bool) (o p : Option ToldWord) → (not judged && judges) ≡ true → judged ≡ is_judged steps → (IsTrue judges ↔ ActJudges plan steps act) → IsFree c.words plan.dialects.items (seen_in steps) o → p ≡ payload_in o
    → JudgesSo c plan steps act p
judges_told c plan steps act judged judges o p may e is f same =
    let m = may_parts judged judges may in
    subst (JudgesSo c plan steps act) (sym same) (judges_free c plan steps act o f (sym e ∙ m.0) (is.0 m.1))

pub judges_none : (c : ToldCodecs) (plan : PostPlan) (steps : List ToldStep) (act : Act) (judged judges : Bool) → (not judged && judges) ≡ false → judged ≡ is_judged steps → (IsTrue judges ↔ ActJudges plan steps act) → JudgesSo c plan steps act None
judges_none c plan steps act judged judges may e is = λ word j. may_none judged judges may (e ∙ j.unread) (is.1 j.judges)

-- PowerDelivery Start.

start_asked : (c : ToldCodecs) (plan : PostPlan) (steps : List ToldStep) (request : Request) → IsTold c.words plan.dialects.items (seen_in steps) (told.Asked request) → IsTrue (asks_start request.ask) ↔ Starts c plan steps
start_asked c plan steps request t = (
  λ is. record { words = t.words; request = request; unanswered = subst (IsUnanswered c.words plan.dialects.items (seen_in steps) t.words) t.kept_is t.is; start = is },
  λ s.
      let x : Payload (Asked s.request) ≡ Payload (Asked request) = t.only s.words (Payload (Asked s.request)) s.unanswered ∙ t.kept_is in
      let y : s.request ≡ request = cc in
      ap (λ (r : Request). asks_start r.ask) (sym y) ∙ s.start,
)

pub start_told : (c : ToldCodecs) (plan : PostPlan) (steps : List ToldStep) (o : Option ToldWord) → TellsFirst c.words plan.dialects.items (seen_in steps) o → IsTrue (is_start o) ↔ Starts c plan steps
start_told c plan steps None t = (λ is. cc, λ s. absurd (t (s.words, Payload (Asked s.request), s.unanswered)))
start_told c plan steps (Some (told.Asked request)) t = start_asked c plan steps request t
start_told c plan steps (Some (told.BadFrame fault)) t =
    (λ is. cc, λ s. let x : Payload (Asked s.request) ≡ Fault fault = t.only s.words (Payload (Asked s.request)) s.unanswered ∙ t.kept_is in absurd (cc))
start_told c plan steps (Some (told.Negotiated chosen)) t =
    (λ is. cc, λ s. let x : Payload (Asked s.request) ≡ Payload (Negotiated chosen t.kept_is.0) = t.only s.words (Payload (Asked s.request)) s.unanswered ∙ t.kept_is.1 in absurd (cc))
start_told c plan steps (Some told.WrongSide) t =
    (λ is. cc, λ s. let x : Payload (Asked s.request) ≡ Payload WrongSide = t.only s.words (Payload (Asked s.request)) s.unanswered ∙ t.kept_is in absurd (cc))
start_told c plan steps (Some told.Refused) t =
    (λ is. cc, λ s. let x : Payload (Asked s.request) ≡ Payload Refused = t.only s.words (Payload (Asked s.request)) s.unanswered ∙ t.kept_is in absurd (cc))

pub both_hold : (a b : Bool) (P Q : Type 0) → (IsTrue a ↔ P) → (IsTrue b ↔ Q) → IsTrue (a && b) ↔ (P × Q)
both_hold true true P Q p q = (λ is. (p.0 refl, q.0 refl), λ h. refl)
both_hold true false P Q p q = (λ is. cc, λ h. q.1 h.1)
both_hold false b P Q p q = (λ is. cc, λ h. p.1 h.0)
