-- An answer's bytes are its messages: each has values of its types and is short enough.
use Rattle.std.proofs.Common.{◌≡◌, ℕ, zero, suc, ◌+◌, ◌^◌, ◌<◌, ◌≤◌, List, [], ◌∷◌, ◌++◌, length, true, refl, sym, subst, arith, codes, length-append}
use Rattle.std.specs.Fmt.{decimal}
use Rattle.std.specs.List.{All, AllByRecursion, flat_map, repeat}
use Rattle.std.proofs.lemmas.Fmt.{IsAscii-decimal, length-decimal-le}
use Rattle.std.proofs.lemmas.Str.Ascii.{All-from_ascii}
use Rattle.std.proofs.lemmas.List.Elements.{All-append, All-cons, All-weaker, recursion_from_All}
use Rattle.repl_text.proofs.Literals.{is_text_by_test, text_from_test}
use Rattle.repl_lsn.specs.Position.{IsCanonical, position_text}
use Rattle.repl_lsn.proofs.Canonical.{position_text_canonical}
use Rattle.repl_message.specs.declared.back.TransactionStatus.TheVariants.{Idle}
use Rattle.repl_message.specs.declared.back.Back.TheVariants as back
use Rattle.repl_message.specs.Message.{counted, column, AreBytes, FitsField, IsBack, AreMessages, back_spelling}
use Rattle.repl_identify.specs.declared.identity.SystemIdentity.{SystemIdentity}
use Rattle.repl_identify.specs.Answer.{greeting, identification, answer, answer_fields, answer_row, text_field, int8_field}
use Rattle.repl_identify.proofs.Lengths.{length-canonical, length-answer_row}

-- digits are bytes
decimal_bytes : (n : ℕ) → n < 2 ^ 64 → AreBytes (decimal n)
decimal_bytes n small =
    recursion_from_All (λ b. b < 256) (decimal n) (All-weaker (λ b. b < 128) (λ b. b < 256) (λ b l. omega arith) (decimal n)
    (All-from_ascii (decimal n) (IsAscii-decimal n small)))

canonical_bytes : (text : List ℕ) (position : ℕ) → IsCanonical text position → AreBytes text
canonical_bytes text position h =
    let weaker = All-weaker (λ (c : ℕ). c < 97) (λ (b : ℕ). b < 256) (λ c l. omega arith) in
    let low : All (λ b. b < 256) (47 ∷ h.low) = All-cons (λ b. b < 256) 47 h.low (omega arith) (weaker h.low h.low_is.upper) in
    subst AreBytes (sym h.parts) (recursion_from_All (λ b. b < 256) (h.high ++ 47 ∷ h.low)
    (All-append (λ b. b < 256) h.high (47 ∷ h.low) (weaker h.high h.high_is.upper) low))

ready : IsBack (back.ReadyForQuery Idle)
ready = record { fits = tt; within = omega arith }

-- what is told of a session's settings
setting : (name value : List ℕ) → is_text_by_test name ≡ true → is_text_by_test value ≡ true → length name + length value ≤ 100
    → IsBack (back.ParameterStatus name value)
setting name value named valued short = record {
  fits = (text_from_test name named, text_from_test value valued);
  within = omega (
    arith,
    length-append (name ++ 0 ∷ []) (value ++ 0 ∷ []),
    length-append name (0 ∷ []),
    length-append value (0 ∷ []),
    short,
  );
}

greeting_messages : AllByRecursion IsBack (greeting 1)
greeting_messages =
    let authenticated : IsBack back.AuthenticationOk = record { fits = tt; within = omega arith } in
    let version = setting (codes "server_version") (codes "17.0") refl refl (omega arith) in
    let encoding = setting (codes "client_encoding") (codes "UTF8") refl refl (omega arith) in
    let datetimes = setting (codes "integer_datetimes") (codes "on") refl refl (omega arith) in
    let strings = setting (codes "standard_conforming_strings") (codes "on") refl refl (omega arith) in
    let key : IsBack (back.BackendKeyData 1 0) = record { fits = (omega arith, omega arith); within = omega arith } in
    (authenticated, (version, (encoding, (datetimes, (strings, (key, (ready, tt)))))))

-- the columns
fits_text_field : (name : List ℕ) → is_text_by_test name ≡ true → FitsField (text_field name)
fits_text_field name named = record {
  name = text_from_test name named;
  table = omega arith;
  attribute = omega arith;
  type_oid = omega arith;
  size = omega arith;
  modifier = omega arith;
  format = omega arith;
}

fits_int8_field : (name : List ℕ) → is_text_by_test name ≡ true → FitsField (int8_field name)
fits_int8_field name named = record {
  name = text_from_test name named;
  table = omega arith;
  attribute = omega arith;
  type_oid = omega arith;
  size = omega arith;
  modifier = omega arith;
  format = omega arith;
}

description : IsBack (back.RowDescription answer_fields)
description =
    let systemid = fits_text_field (codes "systemid") refl in
    let timeline = fits_int8_field (codes "timeline") refl in
    let xlogpos = fits_text_field (codes "xlogpos") refl in
    let dbname = fits_text_field (codes "dbname") refl in
    record { fits = (omega arith, (systemid, (timeline, (xlogpos, (dbname, tt))))); within = omega arith }

-- an identity whose numbers have their types
pub record IsInRange (identity : SystemIdentity) : Type 0 where
  pub system : identity.system < 2 ^ 64
  pub timeline : identity.timeline < 2 ^ 32
  pub flushed : identity.flushed < 2 ^ 64

row : (identity : SystemIdentity) → IsInRange identity → IsBack (back.DataRow (answer_row identity))
row identity h =
    let canonical = position_text_canonical identity.flushed h.flushed in
    let system = length-decimal-le 20 identity.system (omega arith) (omega (arith, h.system)) h.system in
    let timeline = length-decimal-le 20 identity.timeline (omega arith) (omega (arith, h.timeline)) (omega (arith, h.timeline)) in
    let flushed = length-canonical (position_text identity.flushed) identity.flushed canonical in
    let short : length (counted column (answer_row identity)) ≤ 100 = length-answer_row identity system timeline flushed in
    record {
      fits = (
        omega arith,
        (
          decimal_bytes identity.system h.system,
          (
            decimal_bytes identity.timeline (omega (arith, h.timeline)),
            (canonical_bytes (position_text identity.flushed) identity.flushed canonical, (tt, tt)),
          ),
        ),
      );
      within = omega (arith, short);
    }

identification_messages : (identity : SystemIdentity) → IsInRange identity → AllByRecursion IsBack (identification identity)
identification_messages identity h =
    let complete : IsBack (back.CommandComplete (codes "IDENTIFY_SYSTEM")) =
    record { fits = text_from_test (codes "IDENTIFY_SYSTEM") refl; within = omega arith } in
    (description, (row identity h, (complete, (ready, tt))))

all_both : {A : Type 0} (P : A → Type 0) (xs ys : List A) → AllByRecursion P xs → AllByRecursion P ys → AllByRecursion P (xs ++ ys)
all_both P [] ys front back = back
all_both P (x ∷ xs) ys front back = (front.0, all_both P xs ys front.1 back)

all_repeated : {A : Type 0} (P : A → Type 0) (n : ℕ) (xs : List A) → AllByRecursion P xs → AllByRecursion P (repeat n xs)
all_repeated P zero xs all = tt
all_repeated P (suc n) xs all = all_both P xs (repeat n xs) all (all_repeated P n xs all)

pub answer_messages : (identity : SystemIdentity) (questions : ℕ) → IsInRange identity
    → AreMessages (flat_map back_spelling (answer identity questions)) (answer identity questions)
answer_messages identity questions h = record {
  each = all_both IsBack (greeting 1) (repeat questions (identification identity)) greeting_messages
      (all_repeated IsBack questions (identification identity) (identification_messages identity h));
  spelled = refl;
}
