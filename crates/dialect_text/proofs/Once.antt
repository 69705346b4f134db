-- A text says one list of events.
use Rattle.std.proofs.Common.{◌≡◌, ℕ, ◌⊎◌, inl, inr, false, List, [], ◌∷◌, ◌++◌, codes, Option, Some, None, slice_get, refl, sym, ap, ap₂, subst, ◌∙◌, append_assoc, arith, get_or}
use Rattle.std.specs.Prelude.{encode_utf8}
use Rattle.std.specs.Str.{encode_utf8_all}
use Rattle.std.proofs.lemmas.Str.{encodes-append}
use Rattle.std.proofs.lemmas.List.{append-nil, append_cancel_left}
use Rattle.exi_schema.specs.declared.places.Root.TheVariants.{Kind}
use Rattle.exi_schema.specs.Schemas.{PlainSchema, is_word_char}
use Rattle.exi_schema.specs.declared.tables.Datatype.{Datatype}
use Rattle.exi_schema.specs.Plain.{PlainKind, valued, containing}
use Rattle.exi_schema.specs.declared.tables.RootOf.{RootOf}
use Rattle.exi_schema.specs.Steps.{IsRoot, datatype_of}
use Rattle.exi_documents.specs.Trees.{Value, Event, Document, Start, Attribute, Content, EndElement}
use Rattle.document_laws.proofs.Fits.{one_numbered, distinct_names}
use Rattle.value_text.specs.ValueText.{IsName, IsFormed}
use Rattle.dialect_text.specs.declared.elements.Filling.{Filling}
use Rattle.dialect_text.specs.declared.elements.Filling.TheVariants as fills
use Rattle.dialect_text.specs.declared.elements.OpenElement.{OpenElement}
use Rattle.dialect_text.specs.Dialect.{Standing, Before, AtRoot, Within, element, attribute_in, element_in, attribute_of, element_of, mark_of, mark, gap, IsValueOf, IsStartText, IsEndText, Adds, IsDialectText}
use Rattle.dialect_text.specs.Languages.{Goes}
use Rattle.dialect_text.specs.Scanning.{IsNested}
use Rattle.dialect_text.proofs.Agreeing.{splits, Longer, Shorter}
use Rattle.dialect_text.proofs.Running.{onto, onto_once, goes_before, nested_on, behind_some}
use Rattle.value_text.proofs.OneValue.{one_value}
use Rattle.dialect_text.proofs.Values.{value_chars, EndsValue, value_stops}
use Rattle.value_text.proofs.SchemaWords.{name_word}
use Rattle.dialect_text.proofs.Words.{words_split, word_first, one_name}

-- ---- starts and attributes

mark_no_word : (o : Option PlainKind) → is_word_char (mark_of o) ≡ false
mark_no_word None = refl
mark_no_word (Some (valued d)) = refl
mark_no_word (Some (containing attributes particles)) = refl

pub mark_is_none : (s : PlainSchema) (kind : ℕ) → is_word_char (mark s kind) ≡ false
mark_is_none s kind = mark_no_word (slice_get s.kinds kind)

start_behind : (word : List ℕ) (m : ℕ) (text rest : List ℕ) → text ≡ word ++ m ∷ [] → text ++ rest ≡ word ++ m ∷ rest
start_behind word m text rest e = ap (λ (bs : List ℕ). bs ++ rest) e ∙ append_assoc word (m ∷ []) rest

pub start_once : (s : PlainSchema) (name other kind odd : ℕ) (t u x y : List ℕ) → IsStartText s name kind t → IsStartText s other odd u → t ++ x ≡ u ++ y → (name ≡ other) × (x ≡ y)
start_once s name other kind odd t u x y p q e =
    let split = words_split p.0 q.0 (mark s kind) (mark s odd) x y (name_word s name p.0 p.1).1 (name_word s other q.0 q.1).1 (mark_is_none s kind) (mark_is_none s odd)
    (sym (start_behind p.0 (mark s kind) t x p.2) ∙ e ∙ start_behind q.0 (mark s odd) u y q.2) in
    (one_name s name other p.0 p.1 (subst (λ (w : List ℕ). IsName s other w) (sym split.0) q.1), split.2)

-- the start of an element begins with no sign and no brace
pub start_first : (s : PlainSchema) (name kind : ℕ) (t x y : List ℕ) (d : ℕ) → IsStartText s name kind t → is_word_char d ≡ false → t ++ x ≡ d ∷ y → ⊥
start_first s name kind t x y d p none e =
    let word = name_word s name p.0 p.1 in
    word_first p.0 (mark s kind ∷ x) d y word.0 word.1 none (sym (start_behind p.0 (mark s kind) t x p.2) ∙ e)

pub attribute_behind : (word said text rest : List ℕ) → text ≡ codes "@" ++ word ++ codes "=" ++ said → text ++ rest ≡ 64 ∷ (word ++ 61 ∷ (said ++ rest))
attribute_behind word said text rest e =
    ap (λ (bs : List ℕ). bs ++ rest) e ∙ ap (λ (bs : List ℕ). 64 ∷ bs) (append_assoc (word ++ 61 ∷ []) said rest ∙ append_assoc word (61 ∷ []) (said ++ rest))

-- ---- gaps and ends

pub heads_differ : (c d : ℕ) (x y : List ℕ) → c ∷ x ≡ d ∷ y → c ≡ d
heads_differ c d x y e = ap (λ (bs : List ℕ). get_or bs 0 0) e

pub tails_same : (c : ℕ) (x y : List ℕ) → c ∷ x ≡ c ∷ y → x ≡ y
tails_same c x y e = cc

gap_brace : (f : Filling) (x y : List ℕ) → ((z : List ℕ) → x ≡ 125 ∷ z → ⊥) → gap f ++ x ≡ 125 ∷ y → ⊥
gap_brace fills.Nothing x y none e = none y e
gap_brace fills.Attributes x y none e = omega (arith, heads_differ 32 125 x y e)
gap_brace fills.Elements x y none e = omega (arith, heads_differ 32 125 x y e)
gap_brace fills.Value x y none e = omega (arith, heads_differ 32 125 x y e)

pub behind : (a b c x : List ℕ) → a ≡ b ++ c → a ++ x ≡ b ++ (c ++ x)
behind a b c x e = ap (λ (bs : List ℕ). bs ++ x) e ∙ append_assoc b c x

pub past_gap : (f : Filling) (a b t u x y : List ℕ) → a ≡ gap f ++ t → b ≡ gap f ++ u → a ++ x ≡ b ++ y → t ++ x ≡ u ++ y
past_gap f a b t u x y p q e = append_cancel_left (gap f) (t ++ x) (u ++ y) (sym (behind a (gap f) t x p) ∙ e ∙ behind b (gap f) u y q)

-- where an element may stand, an element ends with a brace and has no value
pub element_end : (o : Option PlainKind) (f : Filling) (name kind : ℕ) (b : List ℕ) → element_in o name ≡ Some kind → IsEndText o f b → b ≡ 125 ∷ []
element_end None f name kind b is end = absurd end
element_end (Some (valued d)) f name kind b is end = let wrong : None ≡ Some kind = is in absurd cc
element_end (Some (containing attributes particles)) f name kind b is end = end

pub attribute_end : (o : Option PlainKind) (f : Filling) (name kind : ℕ) (b : List ℕ) → attribute_in o name ≡ Some kind → IsEndText o f b → b ≡ 125 ∷ []
attribute_end None f name kind b is end = absurd end
attribute_end (Some (valued d)) f name kind b is end = let wrong : None ≡ Some kind = is in absurd cc
attribute_end (Some (containing attributes particles)) f name kind b is end = end

pub element_no_value : (o : Option PlainKind) (name kind : ℕ) (d : Datatype) → element_in o name ≡ Some kind → datatype_of o ≡ Some d → ⊥
element_no_value None name kind d is has = let wrong : None ≡ Some d = has in cc
element_no_value (Some (valued e)) name kind d is has = let wrong : None ≡ Some kind = is in cc
element_no_value (Some (containing attributes particles)) name kind d is has = let wrong : None ≡ Some d = has in cc

pub attribute_no_value : (o : Option PlainKind) (name kind : ℕ) (d : Datatype) → attribute_in o name ≡ Some kind → datatype_of o ≡ Some d → ⊥
attribute_no_value None name kind d is has = let wrong : None ≡ Some d = has in cc
attribute_no_value (Some (valued e)) name kind d is has = let wrong : None ≡ Some kind = is in cc
attribute_no_value (Some (containing attributes particles)) name kind d is has = let wrong : None ≡ Some d = has in cc

-- a value ends an element only behind it
value_end : (o : Option PlainKind) (f : Filling) (d : Datatype) (b : List ℕ) → f ≡ fills.Nothing → datatype_of o ≡ Some d → IsEndText o f b → ⊥
value_end None f d b none has end = end
value_end (Some (valued e)) f d b none has end = let wrong : fills.Nothing ≡ fills.Value = sym none ∙ end.0 in cc
value_end (Some (containing attributes particles)) f d b none has end = let wrong : None ≡ Some d = has in cc

end_once : (o : Option PlainKind) (f : Filling) (a b : List ℕ) → IsEndText o f a → IsEndText o f b → a ≡ b
end_once None f a b p q = absurd p
end_once (Some (valued d)) f a b p q = p.1 ∙ sym q.1
end_once (Some (containing attributes particles)) f a b p q = p ∙ sym q

-- ---- one event

-- values that stand at one place are one, with these behind them
abbrev pub ValueOnce : PlainSchema → List ℕ → List ℕ → Type 0
ValueOnce s x y = (kind : ℕ) (v w : Value) (t u : List ℕ) → IsValueOf s kind v t → IsValueOf s kind w u → t ++ x ≡ u ++ y → t ≡ u

-- an event with a value
abbrev pub IsValued : Event → Type 0
IsValued (Document number) = ⊥
IsValued (Start name) = ⊥
IsValued (Attribute name value) = Unit {0}
IsValued (Content value) = Unit {0}
IsValued EndElement = ⊥

abbrev pub IsOnce : Event → Event → Standing → Standing → List ℕ → List ℕ → Type 0
IsOnce e f a b x y = (e ≡ f) × (a ≡ b) × (x ≡ y)

same_kind : (o : Option ℕ) (kind odd : ℕ) → o ≡ Some kind → o ≡ Some odd → kind ≡ odd
same_kind o kind odd p q = let same : Some kind ≡ Some odd = sym p ∙ q in cc

pub value_once : (s : PlainSchema) (kind odd : ℕ) (v w : Value) (t u x y : List ℕ) → kind ≡ odd → ValueOnce s x y → IsValueOf s kind v t → IsValueOf s odd w u → t ++ x ≡ u ++ y → (v ≡ w) × (x ≡ y)
value_once s kind odd v w t u x y same once p q e =
    let r : IsValueOf s kind w u = subst (λ (k : ℕ). IsValueOf s k w u) (sym same) q in
    let texts = once kind v w t u p r e in
    let types : Some p.0 ≡ Some r.0 = sym p.1 ∙ r.1 in
    let type : r.0 ≡ p.0 = cc in
    let other : IsFormed s kind p.0 w t = subst (λ (z : List ℕ). IsFormed s kind p.0 w z) (sym texts) (subst (λ (d : Datatype). IsFormed s kind d w u) type r.2) in
    (one_value s kind p.0 v w t p.2 other, append_cancel_left t x y (e ∙ ap (λ (bs : List ℕ). bs ++ y) (sym texts)))

root_once : (s : PlainSchema) (n m name other kind odd : ℕ) → IsRoot s.roots s.root_bits n (Kind name kind) → IsRoot s.roots s.root_bits m (Kind other odd) → name ≡ other → (n ≡ m) × (kind ≡ odd)
root_once s n m name other kind odd p q e =
    let same = (one_numbered (λ (root : RootOf). root.name) s.roots p.0 q.0 (record { number = n; name = name; kind = kind }) (record { number = m; name = other; kind = odd }) (distinct_names s) p.1 q.1 e).0 in
    (ap (λ (root : RootOf). root.number) same, ap (λ (root : RootOf). root.kind) same)

pub document_once : (s : PlainSchema) (n m : ℕ) (a b x y : List ℕ) (after beyond : Standing) → Adds s Before (Document n) a after → Adds s Before (Document m) b beyond → a ++ x ≡ b ++ y →
    IsOnce (Document n) (Document m) after beyond x y
document_once s n m a b x y after beyond p q e =
    let start = start_once s p.0 q.0 p.1 q.1 a b x y p.3 q.3 e in
    let root = root_once s n m p.0 q.0 p.1 q.1 p.2 q.2 start.0 in
    (ap Document root.0, p.4 ∙ ap₂ AtRoot start.0 root.1 ∙ sym q.4, start.1)

pub element_once : (s : PlainSchema) (top : OpenElement) (above : List OpenElement) (n m : ℕ) (a b x y : List ℕ) (after beyond : Standing) → Adds s (Within (top ∷ above)) (Start n) a after → Adds s (Within (top ∷ above)) (Start m) b beyond →
    a ++ x ≡ b ++ y → IsOnce (Start n) (Start m) after beyond x y
element_once s top above n m a b x y after beyond p q e =
    let start = start_once s n m p.0 q.0 p.1 q.1 x y p.3 q.3 (past_gap top.filling a b p.1 q.1 x y p.4 q.4 e) in
    let kind = same_kind (element_of s top.kind m) p.0 q.0 (ap (λ (z : ℕ). element_of s top.kind z) (sym start.0) ∙ p.2) q.2 in
    (ap Start start.0, p.5 ∙ ap (λ (k : ℕ). Within (element k fills.Nothing ∷ element top.kind fills.Elements ∷ above)) kind ∙ sym q.5, start.1)

pub attribute_once : (s : PlainSchema) (top : OpenElement) (above : List OpenElement) (n m : ℕ) (v w : Value) (a b x y : List ℕ) (after beyond : Standing) → ValueOnce s x y →
    Adds s (Within (top ∷ above)) (Attribute n v) a after → Adds s (Within (top ∷ above)) (Attribute m w) b beyond → a ++ x ≡ b ++ y → IsOnce (Attribute n v) (Attribute m w) after beyond x y
attribute_once s top above n m v w a b x y after beyond once p q e =
    let parts = past_gap top.filling a b p.1 q.1 x y p.5 q.5 e in
    let inner = tails_same 64 (p.4.0 ++ 61 ∷ (p.4.1 ++ x)) (q.4.0 ++ 61 ∷ (q.4.1 ++ y)) (sym (attribute_behind p.4.0 p.4.1 p.1 x p.4.4) ∙ parts ∙ attribute_behind q.4.0 q.4.1 q.1 y q.4.4) in
    let split = words_split p.4.0 q.4.0 61 61 (p.4.1 ++ x) (q.4.1 ++ y) (name_word s n p.4.0 p.4.2).1 (name_word s m q.4.0 q.4.2).1 refl refl inner in
    let name = one_name s n m p.4.0 p.4.2 (subst (λ (z : List ℕ). IsName s m z) (sym split.0) q.4.2) in
    let kind = same_kind (attribute_of s top.kind m) p.0 q.0 (ap (λ (z : ℕ). attribute_of s top.kind z) (sym name) ∙ p.3) q.3 in
    let value = value_once s p.0 q.0 v w p.4.1 q.4.1 x y kind once p.4.3 q.4.3 split.2 in
    (ap₂ Attribute name value.0, p.6 ∙ sym q.6, value.1)

starts_no_attribute : (s : PlainSchema) (top : OpenElement) (above : List OpenElement) (n m : ℕ) (v : Value) (a b x y : List ℕ) (after beyond : Standing) →
    Adds s (Within (top ∷ above)) (Start n) a after → Adds s (Within (top ∷ above)) (Attribute m v) b beyond → a ++ x ≡ b ++ y → ⊥
starts_no_attribute s top above n m v a b x y after beyond p q e =
    start_first s n p.0 p.1 x (q.4.0 ++ 61 ∷ (q.4.1 ++ y)) 64 p.3 refl (past_gap top.filling a b p.1 q.1 x y p.4 q.5 e ∙ attribute_behind q.4.0 q.4.1 q.1 y q.4.4)

starts_no_end : (s : PlainSchema) (top : OpenElement) (above : List OpenElement) (n : ℕ) (a b x y : List ℕ) (after beyond : Standing) →
    Adds s (Within (top ∷ above)) (Start n) a after → Adds s (Within (top ∷ above)) EndElement b beyond → a ++ x ≡ b ++ y → ⊥
starts_no_end s top above n a b x y after beyond p q e =
    let brace = element_end (slice_get s.kinds top.kind) top.filling n p.0 b p.2 q.0 in
    gap_brace top.filling (p.1 ++ x) y (λ z f. start_first s n p.0 p.1 x z 125 p.3 refl f) (sym (behind a (gap top.filling) p.1 x p.4) ∙ e ∙ ap (λ (bs : List ℕ). bs ++ y) brace)

attribute_no_end : (s : PlainSchema) (top : OpenElement) (above : List OpenElement) (n : ℕ) (v : Value) (a b x y : List ℕ) (after beyond : Standing) →
    Adds s (Within (top ∷ above)) (Attribute n v) a after → Adds s (Within (top ∷ above)) EndElement b beyond → a ++ x ≡ b ++ y → ⊥
attribute_no_end s top above n v a b x y after beyond p q e =
    let brace = attribute_end (slice_get s.kinds top.kind) top.filling n p.0 b p.3 q.0 in
    gap_brace top.filling (p.1 ++ x) y
    (λ z f. omega (arith, heads_differ 64 125 (p.4.0 ++ 61 ∷ (p.4.1 ++ x)) z (sym (attribute_behind p.4.0 p.4.1 p.1 x p.4.4) ∙ f)))
    (sym (behind a (gap top.filling) p.1 x p.5) ∙ e ∙ ap (λ (bs : List ℕ). bs ++ y) brace)

pub event_once : (s : PlainSchema) (old after beyond : Standing) (e f : Event) (a b x y : List ℕ) → (IsValued e → IsValued f → ValueOnce s x y) → Adds s old e a after → Adds s old f b beyond → a ++ x ≡ b ++ y → IsOnce e f after beyond x y
event_once s Before after beyond (Document n) (Document m) a b x y once p q h = document_once s n m a b x y after beyond p q h
event_once s Before after beyond (Document n) _ a b x y once p q h = absurd q
event_once s Before after beyond _ _ a b x y once p q h = absurd p
event_once s (AtRoot root kind) after beyond (Start n) (Start m) a b x y once p q h =
    (ap Start (p.0 ∙ sym q.0), p.2 ∙ sym q.2, ap (λ (bs : List ℕ). bs ++ x) (sym p.1) ∙ h ∙ ap (λ (bs : List ℕ). bs ++ y) q.1)
event_once s (AtRoot root kind) after beyond (Start n) _ a b x y once p q h = absurd q
event_once s (AtRoot root kind) after beyond _ _ a b x y once p q h = absurd p
event_once s (Within []) after beyond _ _ a b x y once p q h = absurd p
event_once s (Within (top ∷ above)) after beyond (Document n) _ a b x y once p q h = absurd p
event_once s (Within (top ∷ above)) after beyond (Start n) (Document m) a b x y once p q h = absurd q
event_once s (Within (top ∷ above)) after beyond (Start n) (Start m) a b x y once p q h = element_once s top above n m a b x y after beyond p q h
event_once s (Within (top ∷ above)) after beyond (Start n) (Attribute m w) a b x y once p q h = absurd (starts_no_attribute s top above n m w a b x y after beyond p q h)
event_once s (Within (top ∷ above)) after beyond (Start n) (Content w) a b x y once p q h = absurd (element_no_value (slice_get s.kinds top.kind) n p.0 q.1.0 p.2 q.1.1)
event_once s (Within (top ∷ above)) after beyond (Start n) EndElement a b x y once p q h = absurd (starts_no_end s top above n a b x y after beyond p q h)
event_once s (Within (top ∷ above)) after beyond (Attribute n v) (Document m) a b x y once p q h = absurd q
event_once s (Within (top ∷ above)) after beyond (Attribute n v) (Start m) a b x y once p q h = absurd (starts_no_attribute s top above m n v b a y x beyond after q p (sym h))
event_once s (Within (top ∷ above)) after beyond (Attribute n v) (Attribute m w) a b x y once p q h = attribute_once s top above n m v w a b x y after beyond (once tt tt) p q h
event_once s (Within (top ∷ above)) after beyond (Attribute n v) (Content w) a b x y once p q h = absurd (attribute_no_value (slice_get s.kinds top.kind) n p.0 q.1.0 p.3 q.1.1)
event_once s (Within (top ∷ above)) after beyond (Attribute n v) EndElement a b x y once p q h = absurd (attribute_no_end s top above n v a b x y after beyond p q h)
event_once s (Within (top ∷ above)) after beyond (Content v) (Document m) a b x y once p q h = absurd q
event_once s (Within (top ∷ above)) after beyond (Content v) (Start m) a b x y once p q h = absurd (element_no_value (slice_get s.kinds top.kind) m q.0 p.1.0 q.2 p.1.1)
event_once s (Within (top ∷ above)) after beyond (Content v) (Attribute m w) a b x y once p q h = absurd (attribute_no_value (slice_get s.kinds top.kind) m q.0 p.1.0 q.3 p.1.1)
event_once s (Within (top ∷ above)) after beyond (Content v) (Content w) a b x y once p q h =
    let value = value_once s top.kind top.kind v w a b x y refl (once tt tt) p.1 q.1 h in (ap Content value.0, p.2 ∙ sym q.2, value.1)
event_once s (Within (top ∷ above)) after beyond (Content v) EndElement a b x y once p q h = absurd (value_end (slice_get s.kinds top.kind) top.filling p.1.0 b p.0 p.1.1 q.0)
event_once s (Within (top ∷ above)) after beyond EndElement (Document m) a b x y once p q h = absurd q
event_once s (Within (top ∷ above)) after beyond EndElement (Start m) a b x y once p q h = absurd (starts_no_end s top above m b a y x beyond after q p (sym h))
event_once s (Within (top ∷ above)) after beyond EndElement (Attribute m w) a b x y once p q h = absurd (attribute_no_end s top above m w b a y x beyond after q p (sym h))
event_once s (Within (top ∷ above)) after beyond EndElement (Content w) a b x y once p q h = absurd (value_end (slice_get s.kinds top.kind) top.filling q.1.0 a q.0 q.1.1 p.0)
event_once s (Within (top ∷ above)) after beyond EndElement EndElement a b x y once p q h =
    let same = end_once (slice_get s.kinds top.kind) top.filling a b p.0 q.0 in
    (refl, p.1 ∙ sym q.1, append_cancel_left a x y (h ∙ ap (λ (bs : List ℕ). bs ++ y) (sym same)))

-- ---- all events

-- values that nothing goes on with
value_splits : (s : PlainSchema) (kind : ℕ) (v w : Value) (t u x y : List ℕ) → EndsValue x → EndsValue y → IsValueOf s kind v t → IsValueOf s kind w u → t ++ x ≡ u ++ y → t ≡ u
value_splits s kind v w t u x y p q a b e =
    let types : Some a.0 ≡ Some b.0 = sym a.1 ∙ b.1 in
    let type : b.0 ≡ a.0 = cc in
    let other : IsFormed s kind a.0 w u = subst (λ (d : Datatype). IsFormed s kind d w u) type b.2 in
    let cs = value_chars s kind a.0 v t a.2 in
    let ds = value_chars s kind a.0 w u other in
    let one : IsFormed s kind a.0 v (encode_utf8_all cs.0) = subst (λ (z : List ℕ). IsFormed s kind a.0 v z) cs.1 a.2 in
    let two : IsFormed s kind a.0 w (encode_utf8_all ds.0) = subst (λ (z : List ℕ). IsFormed s kind a.0 w z) ds.1 other in
    cs.1 ∙ by_splits cs.0 ds.0 one two (splits cs.0 x ds.0 y (ap (λ (bs : List ℕ). bs ++ x) (sym cs.1) ∙ e ∙ ap (λ (bs : List ℕ). bs ++ y) ds.1)) ∙ sym ds.1
  where
    further : (c : ℕ) (es : List ℕ) (front longer rest more : List ℕ) (d : Datatype) (z o : Value) → EndsValue rest → IsFormed s kind d z (encode_utf8_all front) → IsFormed s kind d o (encode_utf8_all longer) →
        longer ≡ front ++ c ∷ es → rest ≡ encode_utf8 c ++ (encode_utf8_all es ++ more) → ⊥
    further c es front longer rest more d z o ends one two f g =
        value_stops s kind d z front rest one ends c (encode_utf8_all es ++ more) (encode_utf8_all es) g
        (o, subst (λ (t : List ℕ). IsFormed s kind d o t) (ap encode_utf8_all f ∙ encodes-append front (c ∷ es)) two)

    by_splits : (cs ds : List ℕ) → IsFormed s kind a.0 v (encode_utf8_all cs) → IsFormed s kind a.0 w (encode_utf8_all ds) → Longer cs x ds y ⊎ Shorter cs x ds y → encode_utf8_all cs ≡ encode_utf8_all ds
    by_splits cs ds one two (inl (([], f, g))) = ap encode_utf8_all (sym (append-nil cs) ∙ sym f)
    by_splits cs ds one two (inl ((c ∷ es, f, g))) = absurd (further c es cs ds x y a.0 v w p one two f (g ∙ append_assoc (encode_utf8 c) (encode_utf8_all es) y))
    by_splits cs ds one two (inr ((c, es, f, g))) = absurd (further c es ds cs y x a.0 w v q two one f g)

pub value_once_behind : (s : PlainSchema) (x y : List ℕ) → EndsValue x → EndsValue y → ValueOnce s x y
value_once_behind s x y p q kind v w t u a b e = value_splits s kind v w t u x y p q a b e

ends_behind : (s : PlainSchema) (old after : Standing) (e : Event) (es : List Event) (a x : List ℕ) → IsValued e → IsNested old → Adds s old e a after → Goes s after es x → EndsValue x
ends_behind s Before after (Document n) es a x has_value nested p goes = absurd has_value
ends_behind s Before after _ es a x has_value nested p goes = absurd p
ends_behind s (AtRoot root kind) after (Start n) es a x has_value nested p goes = absurd has_value
ends_behind s (AtRoot root kind) after _ es a x has_value nested p goes = absurd p
ends_behind s (Within []) after _ es a x has_value nested p goes = absurd p
ends_behind s (Within (top ∷ above)) after (Attribute n v) es a x has_value nested p goes =
    behind_some s (element top.kind fills.Attributes) above es x tt nested (subst (λ (z : Standing). Goes s z es x) p.6 goes)
ends_behind s (Within (top ∷ above)) after (Content v) es a x has_value nested p goes =
    behind_some s (element top.kind fills.Value) above es x tt nested (subst (λ (z : Standing). Goes s z es x) p.2 goes)
ends_behind s (Within (top ∷ above)) after (Document n) es a x has_value nested p goes = absurd has_value
ends_behind s (Within (top ∷ above)) after (Start n) es a x has_value nested p goes = absurd has_value
ends_behind s (Within (top ∷ above)) after EndElement es a x has_value nested p goes = absurd has_value

none_behind : (s : PlainSchema) (standing after : Standing) (e : Event) (a : List ℕ) → standing ≡ Within [] → Adds s standing e a after → ⊥
none_behind s standing after e a is p = subst (λ (x : Standing). Adds s x e a after) is p

pub goes_once : (s : PlainSchema) (standing : Standing) (es fs : List Event) (text : List ℕ) → IsNested standing → Goes s standing es text → Goes s standing fs text → es ≡ fs
goes_once s standing [] [] text nested p q = refl
goes_once s standing [] (f ∷ fs) text nested p q = absurd (none_behind s standing q.0 f q.1 p.1 q.3)
goes_once s standing (e ∷ es) [] text nested p q = absurd (none_behind s standing p.0 e p.1 q.1 p.3)
goes_once s standing (e ∷ es) (f ∷ fs) text nested p q =
    let one = event_once s standing p.0 q.0 e f p.1 q.1 p.2 q.2
    (λ has_value other. value_once_behind s p.2 q.2 (ends_behind s standing p.0 e es p.1 p.2 has_value nested p.3 p.4) (ends_behind s standing q.0 f fs q.1 q.2 other nested q.3 q.4))
    p.3 q.3 (sym p.5 ∙ q.5) in
    let rest : Goes s p.0 fs p.2 = subst (λ (x : List ℕ). Goes s p.0 fs x) (sym one.2) (subst (λ (x : Standing). Goes s x fs q.2) (sym one.1) q.4) in
    ap₂ (λ (x : Event) (xs : List Event). x ∷ xs) one.0 (goes_once s p.0 es fs p.2 (nested_on s standing p.0 e p.1 p.3 nested) p.4 rest)

-- a text says one list of events
pub one_list : (s : PlainSchema) (a b : List Event) (text : List ℕ) → IsDialectText s a text → IsDialectText s b text → a ≡ b
one_list s a b text p q =
    let whole : (events : List Event) → IsDialectText s events text → Goes s Before (onto events []) text =
    λ events is. subst (λ (t : List ℕ). Goes s Before (onto events []) t) (append-nil text) (goes_before s events [] text [] (Within []) is (refl, refl)) in
    onto_once a b (goes_once s Before (onto a []) (onto b []) text tt (whole a p) (whole b q))
