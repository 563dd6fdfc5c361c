-- What an entry's words spell is read again.
use Rattle.std.proofs.Common.{◌≡◌, ◌≢◌, ℕ, ◌^◌, ◌<◌, ◌≤◌, true, [], ◌∷◌, Some, refl, sym, ap, ◌∙◌, arith, decimal, codes}
use Rattle.history.specs.Prelude.{MOST_AMOUNT, Entry, End, Mode, X, S, Word, Fault, fault_name, IsRecorded, line_of, words_of, mode_word, end_word, spelt, entry_words, CameBack, HasWords, IsWritten, given_up_at, come_back_at, recorded_at, asked_at, condition_at, sleepers_at, left_at, refused_at, lapse_at, back_at, shared_at, named_entry_at, entry_at, Words}
use Rattle.history.specs.declared.entry.End.TheVariants as end
use Rattle.history.specs.declared.entry.Word.TheVariants as word
use Rattle.history.specs.declared.fault.Fault.TheVariants as fault
use Rattle.history.specs.EntryWords.{GaveUp}
use Rattle.history.proofs.Numbers.{number_at_again}
use Rattle.history.proofs.Plain.{is_plain, ArePlain, words_again, decimal_plain}

asked_again : (m : Mode) (n : ℕ) (ws : Words) → n ≤ MOST_AMOUNT →
    asked_at (mode_word m ∷ decimal n ∷ ws) ≡ Some ((m, n), ws)
unfolding asked_at
asked_again X n ws le = rw (number_at_again 0 MOST_AMOUNT n ws (omega arith) (omega arith) le) refl
asked_again S n ws le = rw (number_at_again 0 MOST_AMOUNT n ws (omega arith) (omega arith) le) refl

condition_again : (c : ℕ) (ws : Words) → c ≤ 15 → condition_at (decimal c ∷ ws) ≡ Some (c, ws)
unfolding condition_at
condition_again c ws le = number_at_again 0 15 c ws (omega arith) (omega arith) le

sleepers_again : (c n : ℕ) (ws : Words) → c ≤ 15 → n ≤ MOST_AMOUNT →
    sleepers_at (decimal c ∷ decimal n ∷ ws) ≡ Some ((c, n), ws)
unfolding sleepers_at
sleepers_again c n ws c15 le =
    rw (
      condition_again c (decimal n ∷ ws) c15,
      number_at_again 0 MOST_AMOUNT n ws (omega arith) (omega arith) le,
    ) refl

given_up_again : (e : End) → GaveUp e → given_up_at (end_word e ∷ []) ≡ Some (e, [])
given_up_again end.Timeout gave = refl
given_up_again end.Interrupt gave = refl
given_up_again _ gave = absurd gave

come_back_again : (e : End) → CameBack e → come_back_at (end_word e ∷ []) ≡ Some (e, [])
come_back_again end.None came = absurd came
come_back_again _ came = refl

recorded_again : (f : Fault) → IsRecorded f → recorded_at (fault_name f ∷ []) ≡ Some (f, [])
recorded_again fault.NotOwner low = refl
recorded_again fault.TooManyHolds low = refl
recorded_again fault.TooManyPermits low = refl
recorded_again fault.Interrupted low = refl
recorded_again fault.HoldsRead low = refl
recorded_again _ low = absurd (omega (arith, low))

abbrev made : ℕ → Word → Mode → ℕ → ℕ → End → Entry
made seat w m n at e = record { seat = seat; word = w; mode = m; n = n; at = at; end = e }

left_again : (seat : ℕ) (m : Mode) (n : ℕ) (e : End) → n ≤ MOST_AMOUNT → GaveUp e →
    left_at seat (mode_word m ∷ decimal n ∷ end_word e ∷ []) ≡ Some (made seat word.Left m n 0 e, [])
unfolding left_at
left_again seat m n e le gave = rw (asked_again m n (end_word e ∷ []) le, given_up_again e gave) refl

refused_again : (seat : ℕ) (f : Fault) (m : Mode) (n : ℕ) → n ≤ MOST_AMOUNT → IsRecorded f →
    refused_at seat (mode_word m ∷ decimal n ∷ fault_name f ∷ [])
    ≡ Some (made seat (word.Refused f) m n 0 end.None, [])
unfolding refused_at
refused_again seat f m n le low = rw (asked_again m n (fault_name f ∷ []) le, recorded_again f low) refl

lapse_again : (seat c : ℕ) (e : End) → c ≤ 15 → GaveUp e →
    lapse_at seat (decimal c ∷ end_word e ∷ []) ≡ Some (made seat word.Lapse X 0 c e, [])
unfolding lapse_at
lapse_again seat c e le gave = rw (condition_again c (end_word e ∷ []) le, given_up_again e gave) refl

back_again : (seat c n : ℕ) (e : End) → c ≤ 15 → n ≤ MOST_AMOUNT → CameBack e →
    back_at seat (decimal c ∷ decimal n ∷ end_word e ∷ []) ≡ Some (made seat word.Back X n c e, [])
unfolding back_at
back_again seat c n e c15 le came =
    rw (sleepers_again c n (end_word e ∷ []) c15 le, come_back_again e came) refl

counted_again : (seat : ℕ) → shared_at seat word.Counted 1 1 (codes "s" ∷ decimal 1 ∷ [])
    ≡ Some (made seat word.Counted S 1 0 end.None, [])
unfolding shared_at
counted_again seat = rw (number_at_again 1 1 1 [] (omega arith) (omega arith) (omega arith)) refl

drained_again : (seat n : ℕ) → n ≤ MOST_AMOUNT →
    shared_at seat word.Drained 0 MOST_AMOUNT (codes "s" ∷ decimal n ∷ [])
    ≡ Some (made seat word.Drained S n 0 end.None, [])
unfolding shared_at
drained_again seat n le = rw (number_at_again 0 MOST_AMOUNT n [] (omega arith) (omega arith) le) refl

-- the words of each entry
words_are_read : (seat : ℕ) (w : Word) (m : Mode) (n at : ℕ) (e : End) → HasWords w m n at e →
    n ≤ MOST_AMOUNT → at ≤ 15 → entry_at seat (spelt w m n at e) ≡ Some (made seat w m n at e, [])
unfolding entry_at named_entry_at
words_are_read seat word.Left m n at e has le c15 = rw (has.0, left_again seat m n e le has.1) refl
words_are_read seat (word.Refused f) m n at e has le c15 =
    rw (has.0, has.1, refused_again seat f m n le has.2) refl
words_are_read seat word.Await m n at e has le c15 = rw (has.0, has.1, sleepers_again at n [] c15 le) refl
words_are_read seat word.Lapse m n at e has le c15 = rw (has.0, has.1, lapse_again seat at e c15 has.2) refl
words_are_read seat word.Signal m n at e has le c15 = rw (has.0, has.1, sleepers_again at n [] c15 le) refl
words_are_read seat word.SignalAll m n at e has le c15 = rw (has.0, has.1, sleepers_again at n [] c15 le) refl
words_are_read seat word.Back m n at e has le c15 = rw (has.0, back_again seat at n e c15 le has.1) refl
words_are_read seat word.Counted m n at e has le c15 =
    rw (has.0, has.1, has.2, has.3, counted_again seat) refl
words_are_read seat word.Drained m n at e has le c15 = rw (has.0, has.1, has.2, drained_again seat n le) refl
words_are_read seat _ m n at e has le c15 = rw (has.0, has.1, asked_again m n [] le) refl

pub mode_plain : (m : Mode) → is_plain (mode_word m) ≡ true
mode_plain X = refl
mode_plain S = refl

gave_up_plain : (e : End) → GaveUp e → is_plain (end_word e) ≡ true
gave_up_plain end.Timeout gave = refl
gave_up_plain end.Interrupt gave = refl
gave_up_plain _ gave = absurd gave

came_back_plain : (e : End) → CameBack e → is_plain (end_word e) ≡ true
came_back_plain end.None came = absurd came
came_back_plain _ came = refl

name_plain : (f : Fault) → is_plain (fault_name f) ≡ true
name_plain fault.NotOwner = refl
name_plain _ = refl

-- and the words of each entry hold no spaces
spelt_plain : (w : Word) (m : Mode) (n at : ℕ) (e : End) → HasWords w m n at e → n < 2 ^ 64 → at < 2 ^ 64 →
    ArePlain (spelt w m n at e)
spelt_plain (word.Refused f) m n at e has lt c64 = search (arith, mode_plain, name_plain, decimal_plain)
spelt_plain _ m n at e has lt c64 = search (arith, mode_plain, gave_up_plain, came_back_plain, decimal_plain)

pub plain_entry : (e : Entry) → IsWritten e → ArePlain (entry_words e)
plain_entry e written =
    spelt_plain e.word e.mode e.n e.at e.end written.words (omega (arith, written.amount))
    (omega (arith, written.condition))

pub words_again_read : (e : Entry) → IsWritten e → entry_at e.seat (entry_words e) ≡ Some (e, [])
words_again_read e written =
    words_are_read e.seat e.word e.mode e.n e.at e.end written.words written.amount written.condition

-- no entry is read from no words
some_words : (seat : ℕ) (ws : Words) (x : Entry × Words) → entry_at seat ws ≡ Some x → ws ≢ []
unfolding entry_at
some_words seat [] x read = absurd cc
some_words seat (w ∷ ws) x read = λ empty. cc

cut_again : (ws : Words) → ArePlain ws → ws ≢ [] → words_of (line_of ws) ≡ ws
cut_again [] plain some = absurd (some refl)
cut_again (w ∷ ws) plain some = words_again w ws plain

pub entry_again : (seat : ℕ) (e : Entry) → IsWritten e → e.seat ≡ seat →
    entry_at seat (words_of (line_of (entry_words e))) ≡ Some (e, [])
entry_again seat e written is =
    let read : entry_at seat (entry_words e) ≡ Some (e, []) =
    ap (λ (i : ℕ). entry_at i (entry_words e)) (sym is) ∙ words_again_read e written in
    ap (entry_at seat) (cut_again (entry_words e) (plain_entry e written)
    (some_words seat (entry_words e) (e, []) read)) ∙ read
