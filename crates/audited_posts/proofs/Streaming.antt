-- The stream of a post behind an entry, of whichever kind it is.
use Rattle.std.proofs.Common.{◌≡◌, ℕ, max, ◌==◌, Bool, true, false, List, ◌∷◌, sym, subst, eq-eqb}
use Rattle.std.specs.Prelude.{if◌then◌else◌, MatchBool}
use Rattle.charge_world.specs.declared.entry.Entry.{Entry}
use Rattle.charge_world.specs.declared.entry.Entry.TheVariants as entry
use Rattle.charge_world.specs.declared.heard.Heard.{Heard as Hearing}
use Rattle.charge_world.specs.declared.offer.Dialect.{Dialect}
use Rattle.charge_world.specs.declared.ports.Order.{Order}
use Rattle.session_words.specs.declared.plan.PostPlan.{PostPlan}
use Rattle.post_spec.specs.Codecs.{Codecs}
use Rattle.post_spec.specs.Steps.{Give, Send, Answer, End, Seen, Heard, Did, event_at, moment, seen}
use Rattle.told_pasts.specs.Spelling.{ToldCodecs}
use Rattle.audit_streams.specs.declared.streams.ToldStream.{ToldStream}
use Rattle.audit_streams.specs.Streams.{AreOf, IsEven, IsAsked, NoneIsNext}
use Rattle.audited_posts.specs.Posts.{IsFree, StreamsOn}
use Rattle.audited_posts.proofs.Entries.{apart}

differ : false ≡ true → ⊥
differ h = cc

own : (c : Codecs) (offers : List Dialect) (b : Bool) (xs ys : List Seen) (v : ToldStream) → b ≡ true → AreOf c offers xs v → AreOf c offers (if b then xs else ys) v
own c offers true xs ys v is h = h
own c offers false xs ys v is h = absurd (differ is)

others : (c : Codecs) (offers : List Dialect) (b : Bool) (xs ys : List Seen) (v : ToldStream) → b ≡ false → AreOf c offers ys v → AreOf c offers (if b then xs else ys) v
others c offers true xs ys v is h = absurd (differ (sym is))
others c offers false xs ys v is h = h

asked_own : (A B : Type 0) (b : Bool) → b ≡ true → MatchBool b A B → A
asked_own A B true is m = m
asked_own A B false is m = absurd (differ is)

on : (c : Codecs) (offers : List Dialect) (k : ℕ) (past : List Entry) (e d : Entry) (v : ToldStream) → e ≡ d → StreamsOn c offers k past d v → StreamsOn c offers k past e v
on c offers k past e d v is h = subst (λ (x : Entry). StreamsOn c offers k past x v) (sym is) h

pub heard_on : (c : ToldCodecs) (plan : PostPlan) (k : ℕ) (past : List Entry) (e : Entry) (v : ToldStream) (heard : Hearing) (bytes : List ℕ) → e ≡ entry.Heard heard bytes
    → IsFree c plan k past e
    → (NoneIsNext c.words plan.dialects.items (seen k past)
    → AreOf c.words plan.dialects.items (Heard (max (moment past) heard.at) (event_at k heard.what bytes) ∷ seen k past) v × IsEven v)
    → StreamsOn c.words plan.dialects.items k past e v
heard_on c plan k past e v heard bytes is free f =
    let found = f (subst (λ (x : Entry). IsFree c plan k past x) is free) in
    on c.words plan.dialects.items k past e (entry.Heard heard bytes) v is (record { stream_is = found.0; even = λ a. found.1 })

-- ---- its own acts

pub sent_on : (c : Codecs) (offers : List Dialect) (k : ℕ) (past : List Entry) (e : Entry) (v : ToldStream) (at : ℕ) (bytes : List ℕ) (taken : Bool) → e ≡ entry.Sent at bytes taken → at ≡ k
    → AreOf c offers (Did (Send bytes) taken ∷ seen k past) v → (IsAsked c offers (seen k past) → IsEven v) → StreamsOn c offers k past e v
sent_on c offers k past e v at bytes taken is same h even = on c offers k past e (entry.Sent at bytes taken) v is (record {
  stream_is = own c offers (at == k) (Did (Send bytes) taken ∷ seen k past) (seen k past) v (eq-eqb at k same) h;
  even = λ a. even (asked_own (IsAsked c offers (seen k past)) (Unit {0}) (at == k) (eq-eqb at k same) a);
})

pub answered_on : (c : Codecs) (offers : List Dialect) (k : ℕ) (past : List Entry) (e : Entry) (v : ToldStream) (at : ℕ) (bytes : List ℕ) (taken : Bool) → e ≡ entry.Answered at bytes taken → at ≡ k
    → AreOf c offers (Did (Answer bytes) taken ∷ seen k past) v → IsEven v → StreamsOn c offers k past e v
answered_on c offers k past e v at bytes taken is same h even = on c offers k past e (entry.Answered at bytes taken) v is (record {
  stream_is = own c offers (at == k) (Did (Answer bytes) taken ∷ seen k past) (seen k past) v (eq-eqb at k same) h;
  even = λ a. even;
})

pub drove_on : (c : Codecs) (offers : List Dialect) (k : ℕ) (past : List Entry) (e : Entry) (v : ToldStream) (at : ℕ) (given : Order) (taken : Bool) → e ≡ entry.Drove at given taken → at ≡ k
    → AreOf c offers (Did (Give given) taken ∷ seen k past) v → IsEven v → StreamsOn c offers k past e v
drove_on c offers k past e v at given taken is same h even = on c offers k past e (entry.Drove at given taken) v is (record {
  stream_is = own c offers (at == k) (Did (Give given) taken ∷ seen k past) (seen k past) v (eq-eqb at k same) h;
  even = λ a. even;
})

pub ended_on : (c : Codecs) (offers : List Dialect) (k : ℕ) (past : List Entry) (e : Entry) (v : ToldStream) (at cause : ℕ) → e ≡ entry.Ended at cause → at ≡ k
    → AreOf c offers (Did (End cause) true ∷ seen k past) v → IsEven v → StreamsOn c offers k past e v
ended_on c offers k past e v at cause is same h even = on c offers k past e (entry.Ended at cause) v is (record {
  stream_is = own c offers (at == k) (Did (End cause) true ∷ seen k past) (seen k past) v (eq-eqb at k same) h;
  even = λ a. even;
})

-- ---- those of others

pub other_sent : (c : Codecs) (offers : List Dialect) (k : ℕ) (past : List Entry) (e : Entry) (v : ToldStream) (at : ℕ) (bytes : List ℕ) (taken : Bool) → e ≡ entry.Sent at bytes taken
    → (at ≡ k → ⊥) → AreOf c offers (seen k past) v → IsEven v → StreamsOn c offers k past e v
other_sent c offers k past e v at bytes taken is other h even = on c offers k past e (entry.Sent at bytes taken) v is (record {
  stream_is = others c offers (at == k) (Did (Send bytes) taken ∷ seen k past) (seen k past) v (apart at k other) h;
  even = λ a. even;
})

pub other_answered : (c : Codecs) (offers : List Dialect) (k : ℕ) (past : List Entry) (e : Entry) (v : ToldStream) (at : ℕ) (bytes : List ℕ) (taken : Bool) → e ≡ entry.Answered at bytes taken
    → (at ≡ k → ⊥) → AreOf c offers (seen k past) v → IsEven v → StreamsOn c offers k past e v
other_answered c offers k past e v at bytes taken is other h even = on c offers k past e (entry.Answered at bytes taken) v is (record {
  stream_is = others c offers (at == k) (Did (Answer bytes) taken ∷ seen k past) (seen k past) v (apart at k other) h;
  even = λ a. even;
})

pub other_drove : (c : Codecs) (offers : List Dialect) (k : ℕ) (past : List Entry) (e : Entry) (v : ToldStream) (at : ℕ) (given : Order) (taken : Bool) → e ≡ entry.Drove at given taken
    → (at ≡ k → ⊥) → AreOf c offers (seen k past) v → IsEven v → StreamsOn c offers k past e v
other_drove c offers k past e v at given taken is other h even = on c offers k past e (entry.Drove at given taken) v is (record {
  stream_is = others c offers (at == k) (Did (Give given) taken ∷ seen k past) (seen k past) v (apart at k other) h;
  even = λ a. even;
})

pub other_ended : (c : Codecs) (offers : List Dialect) (k : ℕ) (past : List Entry) (e : Entry) (v : ToldStream) (at cause : ℕ) → e ≡ entry.Ended at cause
    → (at ≡ k → ⊥) → AreOf c offers (seen k past) v → IsEven v → StreamsOn c offers k past e v
other_ended c offers k past e v at cause is other h even = on c offers k past e (entry.Ended at cause) v is (record {
  stream_is = others c offers (at == k) (Did (End cause) true ∷ seen k past) (seen k past) v (apart at k other) h;
  even = λ a. even;
})

pub lost_on : (c : Codecs) (offers : List Dialect) (k : ℕ) (past : List Entry) (e : Entry) (v : ToldStream) → e ≡ entry.Lost → AreOf c offers (seen k past) v → IsEven v → StreamsOn c offers k past e v
lost_on c offers k past e v is h even = on c offers k past e entry.Lost v is (record { stream_is = h; even = λ a. even })

pub dialed_on : (c : Codecs) (offers : List Dialect) (k : ℕ) (past : List Entry) (e : Entry) (v : ToldStream) (port : ℕ) (taken : Bool) → e ≡ entry.Dialed port taken
    → AreOf c offers (seen k past) v → IsEven v → StreamsOn c offers k past e v
dialed_on c offers k past e v port taken is h even = on c offers k past e (entry.Dialed port taken) v is (record { stream_is = h; even = λ a. even })
