-- Texts of values: their characters, and what may stand behind one.
use Rattle.std.proofs.Common.{◌≡◌, ℕ, zero, suc, ◌+◌, ◌/◌, ◌%◌, ◌^◌, ◌<◌, ◌≤◌, Bool, true, false, ◌&&◌, List, [], ◌∷◌, ◌++◌, length, Some, slice_get, refl, sym, ap, ap₂, subst, ◌∙◌, arith}
use Rattle.std.specs.Prelude.{encode_utf8, slice_index, ℤ, pos, negsuc}
use Rattle.std.specs.Fmt.{decimal, signed_decimal}
use Rattle.std.specs.List.{list_all, AllByRecursion}
use Rattle.std.specs.Str.{encode_utf8_all}
use Rattle.std.proofs.lemmas.Bool.Decides.{nat_tests}
use Rattle.std.proofs.lemmas.Fmt.{decimal_by_steps_wide}
use Rattle.std.proofs.lemmas.List.{append-nil, length-append}
use Rattle.std.proofs.lemmas.Str.{encode_ascii}
use Rattle.hex.specs.Hex.{encode_with, encode_lower, lower_digits}
use Rattle.exi_schema.specs.Schemas.{PlainSchema, is_word_char}
use Rattle.exi_schema.specs.declared.tables.Datatype.{Datatype}
use Rattle.exi_schema.specs.declared.tables.Datatype.TheVariants as type
use Rattle.exi_schema.proofs.Conditions.{and-l, and-r}
use Rattle.exi_documents.specs.Trees.{Value, Truth, Ordinal, Number, Bytes, Text}
use Rattle.value_text.specs.Scanning.{IsAnyFormed}
use Rattle.value_text.specs.ValueText.{IsFormed, IsShort, truth_text, value_names, quoted}
use Rattle.value_text.proofs.FrontLaws.{Stops}
use Rattle.value_text.proofs.NextLaws.{some_bytes}
use Rattle.dialect_text.proofs.Quotes.{one_byte, quoted_once, quoted_chars}
use Rattle.value_text.proofs.SchemaWords.{IsWordText, word_char_low, word_text, word_in, value_words}
use Rattle.dialect_text.proofs.Words.{word_chars}

-- ---- words and numbers

and_true : (a b : Bool) → a ≡ true → b ≡ true → (a && b) ≡ true
and_true true b p q = q
and_true false b p q = p

pub word_behind : (a b : List ℕ) → IsWordText (a ++ b) → IsWordText b
word_behind [] b is = is
word_behind (c ∷ a) b is = word_behind a b (and-r (is_word_char c) (list_all is_word_char (a ++ b)) is)

word_both : (a b : List ℕ) → IsWordText a → IsWordText b → IsWordText (a ++ b)
word_both [] b p q = q
word_both (c ∷ a) b p q = and_true (is_word_char c) (list_all is_word_char (a ++ b)) (and-l (is_word_char c) (list_all is_word_char a) p) (word_both a b (and-r (is_word_char c) (list_all is_word_char a) p) q)

first_word : (c : ℕ) (x y : List ℕ) → encode_utf8 c ++ x ≡ y → IsWordText y → is_word_char c ≡ true
first_word c x [] e is = absurd (some_bytes c x e)
first_word c x (b ∷ y) e is =
    let good = and-l (is_word_char b) (list_all is_word_char y) is in
    ap is_word_char (one_byte c b x y (word_char_low b good) e).0 ∙ good

pub behind_word : (a : List ℕ) (c : ℕ) (x : List ℕ) → IsWordText (a ++ (encode_utf8 c ++ x)) → is_word_char c ≡ true
behind_word a c x is = first_word c x (encode_utf8 c ++ x) refl (word_behind a (encode_utf8 c ++ x) is)

digit_word : (d : ℕ) → d < 10 → is_word_char (48 + d) ≡ true
digit_word d low = grind (arith, nat_tests)

abbrev IsDigitText : ℕ → List ℕ → Type 0
IsDigitText n text = IsWordText text × (1 ≤ length text)

digit_text : (n : ℕ) → n < 10 ^ 64 → IsDigitText n (decimal n)
digit_text = decimal_by_steps_wide IsDigitText
    (λ n small. (and_true (is_word_char (48 + n)) true (digit_word n small) refl, omega arith))
    (λ n ds large h. (word_both ds ((48 + n % 10) ∷ []) h.0 (and_true (is_word_char (48 + n % 10)) true (digit_word (n % 10) (omega arith)) refl), omega (arith, h.1, length-append ds ((48 + n % 10) ∷ []))))

-- a number is a word, or one behind its sign
pub data Numeral (v : ℤ) : Type 0 where
  positive : (n : ℕ) → v ≡ pos n → n < 10 ^ 64 → Numeral v
  negative : (n : ℕ) → v ≡ negsuc n → suc n < 10 ^ 64 → Numeral v

numeral : (v : ℤ) → IsShort v → Numeral v
numeral (pos n) is = positive n refl (omega (arith, is))
numeral (negsuc n) is = negative n refl (omega (arith, is))

sign_first : (n : ℕ) (x y : List ℕ) → n < 10 ^ 64 → decimal n ++ x ≡ 45 ∷ y → ⊥
sign_first n x y small e = by_list (decimal n) (digit_text n small) e
  where
    by_list : (text : List ℕ) → IsDigitText n text → text ++ x ≡ 45 ∷ y → ⊥
    by_list [] is e = omega (arith, is.1)
    by_list (b ∷ text) is e =
        let same : b ∷ (text ++ x) ≡ 45 ∷ y = e in let first : b ≡ 45 = cc in
        let wrong : false ≡ true = ap is_word_char (sym first) ∙ and-l (is_word_char b) (list_all is_word_char text) is.0 in cc

number_on : (v w : ℤ) (t : List ℕ) (c : ℕ) (x : List ℕ) → Numeral v → Numeral w → t ≡ signed_decimal v → t ++ (encode_utf8 c ++ x) ≡ signed_decimal w → is_word_char c ≡ true
number_on v w t c x (positive n p small) (positive m q low) e f =
    behind_word t c x (subst IsWordText (sym (f ∙ ap signed_decimal q)) (digit_text m low).0)
number_on v w t c x (positive n p small) (negative m q low) e f =
    absurd (sign_first n (encode_utf8 c ++ x) (decimal (suc m)) small (ap (λ (bs : List ℕ). bs ++ (encode_utf8 c ++ x)) (sym (e ∙ ap signed_decimal p)) ∙ f ∙ ap signed_decimal q))
number_on v w t c x (negative n p small) (positive m q low) e f =
    absurd (sign_first m [] (decimal (suc n) ++ (encode_utf8 c ++ x)) low (append-nil (decimal m) ∙ sym (f ∙ ap signed_decimal q) ∙ ap (λ (bs : List ℕ). bs ++ (encode_utf8 c ++ x)) (e ∙ ap signed_decimal p)))
number_on v w t c x (negative n p small) (negative m q low) e f =
    let same : 45 ∷ (decimal (suc n) ++ (encode_utf8 c ++ x)) ≡ 45 ∷ decimal (suc m) = ap (λ (bs : List ℕ). bs ++ (encode_utf8 c ++ x)) (sym (e ∙ ap signed_decimal p)) ∙ f ∙ ap signed_decimal q in
    let tails : decimal (suc n) ++ (encode_utf8 c ++ x) ≡ decimal (suc m) = cc in
    behind_word (decimal (suc n)) c x (subst IsWordText (sym tails) (digit_text (suc m) low).0)

number_chars : (v : ℤ) → Numeral v → encode_utf8_all (signed_decimal v) ≡ signed_decimal v
number_chars v (positive n p small) = subst (λ (z : ℤ). encode_utf8_all (signed_decimal z) ≡ signed_decimal z) (sym p) (word_chars (decimal n) (digit_text n small).0)
number_chars v (negative n p small) =
    subst (λ (z : ℤ). encode_utf8_all (signed_decimal z) ≡ signed_decimal z) (sym p) (ap₂ (λ (bs cs : List ℕ). bs ++ cs) (encode_ascii 45 (omega arith)) (word_chars (decimal (suc n)) (digit_text (suc n) small).0))

-- ---- hexadecimal

all_index : (test : ℕ → Bool) (xs : List ℕ) (i : ℕ) → list_all test xs ≡ true → i < length xs → test (slice_index xs i) ≡ true
all_index test [] i all low = absurd (omega (arith, low))
all_index test (x ∷ xs) zero all low = and-l (test x) (list_all test xs) all
all_index test (x ∷ xs) (suc i) all low = all_index test xs i (and-r (test x) (list_all test xs) all) (omega (arith, low))

hex_words : (bytes : List ℕ) → AllByRecursion (λ byte. byte < 256) bytes → IsWordText (encode_lower bytes)
unfolding encode_with
hex_words [] all = refl
hex_words (b ∷ bytes) all =
    and_true (is_word_char (slice_index lower_digits (b / 16))) _ (all_index is_word_char lower_digits (b / 16) refl (omega (arith, all.0)))
    (and_true (is_word_char (slice_index lower_digits (b % 16))) _ (all_index is_word_char lower_digits (b % 16) refl (omega arith)) (hex_words bytes all.1))

-- ---- any value

-- how a value of some form is spelled
pub data Spelled (v : Value) (t : List ℕ) : Type 0 where
  word : IsWordText t → Spelled v t
  number : (z : ℤ) → v ≡ Number z → Numeral z → t ≡ signed_decimal z → Spelled v t
  quote : (chars : List ℕ) → v ≡ Text chars → t ≡ quoted chars → Spelled v t

truth_word : (b : Bool) → IsWordText (truth_text b)
truth_word true = refl
truth_word false = refl

name_word : (s : PlainSchema) (kind ordinal : ℕ) (t : List ℕ) → slice_get (value_names s kind) ordinal ≡ Some t → IsWordText t
name_word s kind ordinal t e = (word_text t (word_in (value_names s kind) ordinal t (value_words s kind) e)).1

spelled : (s : PlainSchema) (kind : ℕ) (d : Datatype) (v : Value) (t : List ℕ) → IsFormed s kind d v t → Spelled v t
spelled s kind d (Truth b) t is = word (subst IsWordText (sym is.1) (truth_word b))
spelled s kind d (Ordinal n) t is = word (name_word s kind n t is.1)
spelled s kind type.Bool (Number z) t is = absurd is.0
spelled s kind (type.Named count) (Number z) t is = absurd is.0
spelled s kind (type.Bounded least count) (Number z) t is = number z refl (numeral z is.0) is.1
spelled s kind (type.Unsigned most) (Number z) t is = number z refl (numeral z is.0) is.1
spelled s kind (type.Signed least most) (Number z) t is = number z refl (numeral z is.0) is.1
spelled s kind (type.Binary most) (Number z) t is = absurd is.0
spelled s kind (type.Text most) (Number z) t is = absurd is.0
spelled s kind type.Bool (Bytes bytes) t is = absurd is.0
spelled s kind (type.Named count) (Bytes bytes) t is = absurd is.0
spelled s kind (type.Bounded least count) (Bytes bytes) t is = absurd is.0
spelled s kind (type.Unsigned most) (Bytes bytes) t is = absurd is.0
spelled s kind (type.Signed least most) (Bytes bytes) t is = absurd is.0
spelled s kind (type.Binary most) (Bytes bytes) t is = word (subst IsWordText (sym is.1) (hex_words bytes is.0))
spelled s kind (type.Text most) (Bytes bytes) t is = absurd is.0
spelled s kind d (Text chars) t is = quote chars refl is.1

pub value_chars : (s : PlainSchema) (kind : ℕ) (d : Datatype) (v : Value) (t : List ℕ) → IsFormed s kind d v t → (cs : List ℕ) × (t ≡ encode_utf8_all cs)
value_chars s kind d v t is = by (spelled s kind d v t is)
  where
    by : Spelled v t → (cs : List ℕ) × (t ≡ encode_utf8_all cs)
    by (word w) = (t, sym (word_chars t w))
    by (number z e n f) = (signed_decimal z, f ∙ sym (number_chars z n))
    by (quote chars e f) = let cs = quoted_chars chars in (cs.0, f ∙ cs.1)

-- two values of one datatype
pub data Pair (v w : Value) (t u : List ℕ) : Type 0 where
  words : IsWordText t → IsWordText u → Pair v w t u
  numbers : (y z : ℤ) → v ≡ Number y → w ≡ Number z → Numeral y → Numeral z → t ≡ signed_decimal y → u ≡ signed_decimal z → Pair v w t u
  quotes : (a b : List ℕ) → v ≡ Text a → w ≡ Text b → t ≡ quoted a → u ≡ quoted b → Pair v w t u

truths : (b c : Bool) (t u : List ℕ) → t ≡ truth_text b → u ≡ truth_text c → Pair (Truth b) (Truth c) t u
truths b c t u p q =
    words (subst IsWordText (sym p) (truth_word b)) (subst IsWordText (sym q) (truth_word c))

ordinals : (s : PlainSchema) (kind n m : ℕ) (t u : List ℕ) → slice_get (value_names s kind) n ≡ Some t → slice_get (value_names s kind) m ≡ Some u → Pair (Ordinal n) (Ordinal m) t u
ordinals s kind n m t u p q =
    words (name_word s kind n t p) (name_word s kind m u q)

binaries : (a b t u : List ℕ) → AllByRecursion (λ byte. byte < 256) a → AllByRecursion (λ byte. byte < 256) b → t ≡ encode_lower a → u ≡ encode_lower b → Pair (Bytes a) (Bytes b) t u
binaries a b t u p q e f =
    words (subst IsWordText (sym e) (hex_words a p)) (subst IsWordText (sym f) (hex_words b q))

pair : (s : PlainSchema) (kind : ℕ) (d : Datatype) (v w : Value) (t u : List ℕ) → IsFormed s kind d v t → IsFormed s kind d w u → Pair v w t u
pair s kind type.Bool (Truth b) (Truth c) t u p q = truths b c t u p.1 q.1
pair s kind type.Bool (Truth b) _ t u p q = absurd q.0
pair s kind type.Bool _ _ t u p q = absurd p.0
pair s kind (type.Named count) (Ordinal n) (Ordinal m) t u p q = ordinals s kind n m t u p.1 q.1
pair s kind (type.Named count) (Ordinal n) _ t u p q = absurd q.0
pair s kind (type.Named count) _ _ t u p q = absurd p.0
pair s kind (type.Bounded least count) (Number y) (Number z) t u p q = numbers y z refl refl (numeral y p.0) (numeral z q.0) p.1 q.1
pair s kind (type.Bounded least count) (Number y) _ t u p q = absurd q.0
pair s kind (type.Bounded least count) _ _ t u p q = absurd p.0
pair s kind (type.Unsigned most) (Number y) (Number z) t u p q = numbers y z refl refl (numeral y p.0) (numeral z q.0) p.1 q.1
pair s kind (type.Unsigned most) (Number y) _ t u p q = absurd q.0
pair s kind (type.Unsigned most) _ _ t u p q = absurd p.0
pair s kind (type.Signed least most) (Number y) (Number z) t u p q = numbers y z refl refl (numeral y p.0) (numeral z q.0) p.1 q.1
pair s kind (type.Signed least most) (Number y) _ t u p q = absurd q.0
pair s kind (type.Signed least most) _ _ t u p q = absurd p.0
pair s kind (type.Binary most) (Bytes a) (Bytes b) t u p q = binaries a b t u p.0 q.0 p.1 q.1
pair s kind (type.Binary most) (Bytes a) _ t u p q = absurd q.0
pair s kind (type.Binary most) _ _ t u p q = absurd p.0
pair s kind (type.Text most) (Text a) (Text b) t u p q = quotes a b refl refl p.1 q.1
pair s kind (type.Text most) (Text a) _ t u p q = absurd q.0
pair s kind (type.Text most) _ _ t u p q = absurd p.0

-- a longer value goes on with a character of a word
pub goes_on : (s : PlainSchema) (kind : ℕ) (d : Datatype) (v w : Value) (t : List ℕ) (c : ℕ) (x : List ℕ) → IsFormed s kind d v t → IsFormed s kind d w (t ++ (encode_utf8 c ++ x)) → is_word_char c ≡ true
goes_on s kind d v w t c x p q = by (pair s kind d v w t (t ++ (encode_utf8 c ++ x)) p q)
  where
    by : Pair v w t (t ++ (encode_utf8 c ++ x)) → is_word_char c ≡ true
    by (words m n) = behind_word t c x n
    by (numbers y z a b m n e f) = number_on y z t c x m n e f
    by (quotes a b e f m n) =
        absurd (some_bytes c x (quoted_once a b (encode_utf8 c ++ x) [] (ap (λ (bs : List ℕ). bs ++ (encode_utf8 c ++ x)) (sym m) ∙ n ∙ sym (append-nil (quoted b)))).1)

-- ---- behind a value

-- a space, a brace or the end of the text
pub data EndsValue (rest : List ℕ) : Type 0 where
  at_end : rest ≡ [] → EndsValue rest
  at_space : (x : List ℕ) → rest ≡ 32 ∷ x → EndsValue rest
  at_brace : (x : List ℕ) → rest ≡ 125 ∷ x → EndsValue rest

no_word : (c b : ℕ) (x y : List ℕ) → b < 128 → is_word_char b ≡ false → b ∷ y ≡ encode_utf8 c ++ x → is_word_char c ≡ true → ⊥
no_word c b x y low none e is = let wrong : true ≡ false = sym is ∙ ap is_word_char (one_byte c b x y low (sym e)).0 ∙ none in absurd cc

pub value_stops : (s : PlainSchema) (kind : ℕ) (d : Datatype) (v : Value) (front rest : List ℕ) → IsFormed s kind d v (encode_utf8_all front) → EndsValue rest → Stops (IsAnyFormed s kind d) front rest
value_stops s kind d v front rest is (at_end e) c more after f other = some_bytes c more (sym f ∙ e)
value_stops s kind d v front rest is (at_space x e) c more after f other =
    no_word c 32 more x (omega arith) refl (sym e ∙ f) (goes_on s kind d v other.0 (encode_utf8_all front) c after is other.1)
value_stops s kind d v front rest is (at_brace x e) c more after f other =
    no_word c 125 more x (omega arith) refl (sym e ∙ f) (goes_on s kind d v other.0 (encode_utf8_all front) c after is other.1)
