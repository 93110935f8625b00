-- No spelling of a message is the beginning of another's, and bytes are a server's messages in one way.
use Rattle.std.proofs.Common.{◌≡◌, ℕ, ◌+◌, ◌^◌, ◌<◌, ◌≤◌, List, [], ◌∷◌, ◌++◌, length, Option, refl, sym, ap, ◌∙◌, arith}
use Rattle.std.specs.List.{AllByRecursion, flat_map}
use Rattle.std.proofs.lemmas.List.{length-append}
use Rattle.repl_message.specs.declared.startup.Startup.{Startup}
use Rattle.repl_message.specs.declared.startup.Startup.TheVariants as startup
use Rattle.repl_message.specs.declared.front.Front.{Front}
use Rattle.repl_message.specs.declared.front.Front.TheVariants as front
use Rattle.repl_message.specs.declared.back.TransactionStatus.{TransactionStatus}
use Rattle.repl_message.specs.declared.back.TransactionStatus.TheVariants.{Idle, Open, Failed}
use Rattle.repl_message.specs.declared.back.Back.{Back}
use Rattle.repl_message.specs.declared.back.Back.TheVariants as back
use Rattle.repl_message.specs.Message.{int16, int32, string, pair, error_field, column, field, ended, counted, framed, startup_code, startup_body, front_kind, front_body, front_limit, status_byte, back_kind, back_body, back_limit, startup_spelling, front_spelling, back_spelling, FitsPair, FitsField, FitsErrorField, FitsStartup, FitsFront, IsStartup, IsFront, IsBack, AreMessages}
use Rattle.repl_message.proofs.Spellings.{IsPrefixFree, int16_one, int32_one, string_one, counted_one, ended_one, framed_one}
use Rattle.repl_message.proofs.EntrySpellings.{pair_one, pair_marked, field_one, column_one, IsShort, all_short, error_field_one, error_field_marked}

-- two whole bodies
whole_one : {A : Type 0} {Fits : A → Type 0} {spell : A → List ℕ} (free : IsPrefixFree Fits spell) (x y : A) → Fits x → Fits y → spell x
    ≡ spell y → x ≡ y
whole_one {A} {Fits} {spell} free x y x_fits y_fits e = (free.one x y [] [] x_fits y_fits (ap (λ (t : List ℕ). t ++ []) e)).0

-- ---- the client's messages

front_limits : (m : Front) → front_limit m < 2 ^ 32
front_limits (front.Query text) = omega arith
front_limits (front.CopyData bytes) = omega arith
front_limits front.CopyDone = omega arith
front_limits (front.CopyFail text) = omega arith
front_limits front.Terminate = omega arith

front_bodies : (a b : Front) → FitsFront a → FitsFront b → front_kind a ≡ front_kind b → front_body a ≡ front_body b → a ≡ b
front_bodies (front.Query text) (front.Query other) a_fits b_fits kind body =
    ap front.Query (whole_one string_one text other a_fits b_fits body)
front_bodies (front.CopyData bytes) (front.CopyData other) a_fits b_fits kind body = ap front.CopyData body
front_bodies front.CopyDone front.CopyDone a_fits b_fits kind body = refl
front_bodies (front.CopyFail text) (front.CopyFail other) a_fits b_fits kind body =
    ap front.CopyFail (whole_one string_one text other a_fits b_fits body)
front_bodies front.Terminate front.Terminate a_fits b_fits kind body = refl
front_bodies _ _ a_fits b_fits kind body = absurd (omega (arith, kind))

pub fronts_one : (a b : Front) (x y : List ℕ) → IsFront a → IsFront b → front_spelling a ++ x ≡ front_spelling b ++ y → (a ≡ b) × (x ≡ y)
fronts_one a b x y a_is b_is e =
    let kind : front_kind a ≡ front_kind b = cc in
    let frame : framed (front_body a) ++ x ≡ framed (front_body b) ++ y = cc in
    let t = framed_one.one (front_body a) (front_body b) x y (omega (arith, a_is.within, front_limits a))
    (omega (arith, b_is.within, front_limits b)) frame in
    (front_bodies a b a_is.fits b_is.fits kind t.0, t.1)

-- ---- startup packets

-- what stands after a packet's code
abbrev past_code : Startup → List ℕ
past_code (startup.Params pairs) = ended pair pairs
past_code startup.Ssl = []
past_code startup.Gss = []
past_code (startup.Cancel pid key) = int32 pid ++ int32 key

startup_parts : (m : Startup) → startup_body m ≡ int32 (startup_code m) ++ past_code m
startup_parts (startup.Params pairs) = refl
startup_parts startup.Ssl = refl
startup_parts startup.Gss = refl
startup_parts (startup.Cancel pid key) = refl

startup_codes : (m : Startup) → startup_code m < 2 ^ 32
startup_codes (startup.Params pairs) = omega arith
startup_codes startup.Ssl = omega arith
startup_codes startup.Gss = omega arith
startup_codes (startup.Cancel pid key) = omega arith

startups_past : (a b : Startup) → FitsStartup a → FitsStartup b → startup_code a ≡ startup_code b → past_code a ≡ past_code b → a ≡ b
startups_past (startup.Params pairs) (startup.Params others) a_fits b_fits code past =
    ap startup.Params (whole_one (ended_one FitsPair pair pair_one pair_marked) pairs others a_fits b_fits past)
startups_past startup.Ssl startup.Ssl a_fits b_fits code past = refl
startups_past startup.Gss startup.Gss a_fits b_fits code past = refl
startups_past (startup.Cancel pid key) (startup.Cancel other secret) a_fits b_fits code past =
    let t = int32_one.one pid other (int32 key) (int32 secret) a_fits.0 b_fits.0 past in
    let u = whole_one int32_one key secret a_fits.1 b_fits.1 t.1 in
    let p = t.0 in
    cc
startups_past _ _ a_fits b_fits code past = absurd (omega (arith, code))

startup_bodies : (a b : Startup) → FitsStartup a → FitsStartup b → startup_body a ≡ startup_body b → a ≡ b
startup_bodies a b a_fits b_fits e =
    let t = int32_one.one (startup_code a) (startup_code b) (past_code a) (past_code b) (startup_codes a) (startup_codes b)
    (sym (startup_parts a) ∙ e ∙ startup_parts b) in
    startups_past a b a_fits b_fits t.0 t.1

pub startups_one : (a b : Startup) (x y : List ℕ) → IsStartup a → IsStartup b → startup_spelling a ++ x ≡ startup_spelling b ++ y → (a ≡ b)
    × (x ≡ y)
startups_one a b x y a_is b_is e =
    let t = framed_one.one (startup_body a) (startup_body b) x y (omega (arith, a_is.within)) (omega (arith, b_is.within)) e in
    (startup_bodies a b a_is.fits b_is.fits t.0, t.1)

-- ---- the server's messages

back_limits : (m : Back) → back_limit m ≤ 1_048_576
back_limits (back.CopyData bytes) = omega arith
back_limits _ = omega arith

statuses_one : (a b : TransactionStatus) → status_byte a ≡ status_byte b → a ≡ b
statuses_one Idle Idle e = refl
statuses_one Open Open e = refl
statuses_one Failed Failed e = refl
statuses_one _ _ e = absurd (omega (arith, e))

columns_short : (m : Back) (cs : List (Option (List ℕ))) → length (back_body m) + 4 ≤ back_limit m → back_body m ≡ counted column cs
    → AllByRecursion IsShort cs
columns_short m cs within body = all_short cs (omega (
  arith,
  within,
  back_limits m,
  ap length body,
  length-append (int16 (length cs)) (flat_map column cs),
))

error_fields_one : IsPrefixFree (AllByRecursion FitsErrorField) (ended error_field)
error_fields_one = ended_one FitsErrorField error_field error_field_one error_field_marked

back_bodies : (a b : Back) → IsBack a → IsBack b → back_kind a ≡ back_kind b → back_body a ≡ back_body b → a ≡ b
back_bodies back.AuthenticationOk back.AuthenticationOk a_is b_is kind body = refl
back_bodies (back.ParameterStatus name value) (back.ParameterStatus other second) a_is b_is kind body =
    let t = string_one.one name other (string value) (string second) a_is.fits.0 b_is.fits.0 body in
    let u = whole_one string_one value second a_is.fits.1 b_is.fits.1 t.1 in
    let n = t.0 in
    cc
back_bodies (back.BackendKeyData pid key) (back.BackendKeyData other secret) a_is b_is kind body =
    let t = int32_one.one pid other (int32 key) (int32 secret) a_is.fits.0 b_is.fits.0 body in
    let u = whole_one int32_one key secret a_is.fits.1 b_is.fits.1 t.1 in
    let p = t.0 in
    cc
back_bodies (back.ReadyForQuery status) (back.ReadyForQuery other) a_is b_is kind body =
    ap back.ReadyForQuery (statuses_one status other (cc))
back_bodies (back.RowDescription fields) (back.RowDescription others) a_is b_is kind body =
    ap back.RowDescription (whole_one (counted_one FitsField field field_one) fields others a_is.fits b_is.fits body)
back_bodies (back.DataRow columns) (back.DataRow others) a_is b_is kind body =
    let a_short = columns_short (back.DataRow columns) columns a_is.within refl in
    let b_short = columns_short (back.DataRow others) others b_is.within refl in
    ap back.DataRow (whole_one (counted_one IsShort column column_one) columns others (a_is.fits.0, a_short) (b_is.fits.0, b_short) body)
back_bodies (back.CommandComplete tag) (back.CommandComplete other) a_is b_is kind body =
    ap back.CommandComplete (whole_one string_one tag other a_is.fits b_is.fits body)
back_bodies (back.ErrorResponse fields) (back.ErrorResponse others) a_is b_is kind body =
    ap back.ErrorResponse (whole_one error_fields_one fields others a_is.fits b_is.fits body)
back_bodies (back.NoticeResponse fields) (back.NoticeResponse others) a_is b_is kind body =
    ap back.NoticeResponse (whole_one error_fields_one fields others a_is.fits b_is.fits body)
back_bodies (back.CopyData bytes) (back.CopyData other) a_is b_is kind body = ap back.CopyData body
back_bodies back.CopyDone back.CopyDone a_is b_is kind body = refl
back_bodies (back.CopyBoth format formats) (back.CopyBoth other others) a_is b_is kind body =
    let first : format ≡ other = cc in
    let past : counted int16 formats ≡ counted int16 others = cc in
    let t = whole_one (counted_one (λ f. f < 2 ^ 16) int16 int16_one) formats others (a_is.fits.1, a_is.fits.2) (b_is.fits.1, b_is.fits.2)
    past in
    cc
back_bodies _ _ a_is b_is kind body = absurd (omega (arith, kind))

pub backs_one : (a b : Back) (x y : List ℕ) → IsBack a → IsBack b → back_spelling a ++ x ≡ back_spelling b ++ y → (a ≡ b) × (x ≡ y)
backs_one a b x y a_is b_is e =
    let kind : back_kind a ≡ back_kind b = cc in
    let frame : framed (back_body a) ++ x ≡ framed (back_body b) ++ y = cc in
    let t = framed_one.one (back_body a) (back_body b) x y (omega (arith, a_is.within, back_limits a))
    (omega (arith, b_is.within, back_limits b)) frame in
    (back_bodies a b a_is b_is kind t.0, t.1)

-- ---- streams

streams_one : (a b : List Back) → AllByRecursion IsBack a → AllByRecursion IsBack b → flat_map back_spelling a ≡ flat_map back_spelling b
    → a ≡ b
streams_one [] [] a_are b_are e = refl
streams_one [] (m ∷ ms) a_are b_are e = absurd cc
streams_one (m ∷ ms) [] a_are b_are e = absurd cc
streams_one (m ∷ ms) (n ∷ ns) a_are b_are e =
    let first = backs_one m n (flat_map back_spelling ms) (flat_map back_spelling ns) a_are.0 b_are.0 e in
    let others = streams_one ms ns a_are.1 b_are.1 first.1 in
    let same = first.0 in
    cc

pub reading_one : (bytes : List ℕ) (a b : List Back) → AreMessages bytes a → AreMessages bytes b → a ≡ b
reading_one bytes a b a_are b_are = streams_one a b a_are.each b_are.each (sym a_are.spelled ∙ b_are.spelled)
