use Rattle.std.proofs.Common.{◌≡◌, ℕ, Ok, Err, Result, decimal, sym, ap, ◌∙◌, arith}
use Rattle.std.proofs.lemmas.Fmt.{parse-decimal_wide, IsAscii-decimal_wide}
use Rattle.std.proofs.lemmas.Str.{IsUtf8-from_ascii}
use Rattle.std.proofs.lemmas.Bool.{false≢true}
use Rattle.std.proofs.lemmas.Slice.Eq.{bytes_eq-Decides}
use Rattle.std.specs.Str.{IsUtf8}
use Rattle.history.proofs.number.wide_value.Goals as goal

ok_is_err : {T E : Type 0} (x : T) (e : E) → ◌≡◌ {A = Result T E} (Ok x) (Err e) → ⊥
ok_is_err x e q = cc

same_ok : {E : Type 0} (x y : ℕ) → ◌≡◌ {A = Result ℕ E} (Ok x) (Ok y) → x ≡ y
same_ok x y q = cc

pub returns-in_default-clause-none : goal.returns-in_default-clause-none
returns-in_default-clause-none c n lt is =
    let text : IsUtf8 c.args.bytes.now =
    rw is (IsUtf8-from_ascii (decimal n) (IsAscii-decimal_wide n (omega (arith, lt)))) in
    c.in_default.ensures.cases.0 text

pub returns-in_default-parse-clause-none : goal.returns-in_default-parse-clause-none
returns-in_default-parse-clause-none c n lt is =
    let read = parse-decimal_wide 128 n _ c.parse.result lt (omega (arith, lt)) (c.in-Ok.ensures.cases.0 ∙ is)
    c.parse.ensures.value.0 in
    ok_is_err n _ (sym read ∙ c.in_default-parse.is)

pub returns-else-eq-clause-none : goal.returns-else-eq-clause-none
returns-else-eq-clause-none c n lt is =
    let read = parse-decimal_wide 128 n _ c.parse.result lt (omega (arith, lt)) (c.in-Ok.ensures.cases.0 ∙ is)
    c.parse.ensures.value.0 in
    let same : n ≡ c.in-Ok-parse.number = same_ok n c.in-Ok-parse.number (sym read ∙ c.in-Ok-parse.is) in
    let e = c.as_bytes.ensures.value ∙ c.format.ensures.text ∙ ap decimal (sym same) ∙ sym is in
    false≢true (c.if-eq.ensures ∙ (bytes_eq-Decides c.as_bytes.result.now c.args.bytes.now).1 e)
