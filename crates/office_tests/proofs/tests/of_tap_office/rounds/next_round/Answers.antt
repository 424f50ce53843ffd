use Rattle.std.proofs.Common.{◌≡◌, ℕ, List, [], ◌∷◌, ◌++◌, append-nil, Some, None, inl, refl, sym, ap, ◌∙◌, subst}
use Rattle.std.proofs.Common.{arith}
use Rattle.std.specs.Prelude.{slice_get}
use Rattle.std.specs.List.{All}
use Rattle.std.proofs.lemmas.List.Elements.{All-nil, All-cons}
use Rattle.sha2.specs.Sha256.{sha256}
use Rattle.oyster_account.specs.declared.touch.Touch.{Touch}
use Rattle.oyster_account.specs.declared.reply.Judged.{Judged}
use Rattle.tap_disk.specs.Memory.{content_of}
use Rattle.tap_disk.specs.declared.memory.MemoryDisk.{MemoryDisk}
use Rattle.tap_journal.specs.Layout.{Header}
use Rattle.tap_journal.specs.Image.{Image}
use Rattle.tap_journal.proofs.OneLemmas.{one_journal}
use Rattle.reply_book.specs.declared.book.Book.{Book}
use Rattle.reply_book.specs.Book.{Stands, entries_of, cards_of, tables_of}
use Rattle.reply_book.specs.Legal.{history_of, touches_of, book}
use Rattle.reply_book.specs.Tables.{listed, AreKnown}
use Rattle.reply_book.proofs.CallerLemmas.{stands-is_book}
use Rattle.reply_book.proofs.LegalLemmas.{legal-is_book, touches_in-history_of}
use Rattle.tap_office.specs.Files.{AreReadFrom, HaveOwnDigests, AreOfSameFiles, DoSameFilesKeepReplies}
use Rattle.tap_office.specs.Opening.{OpeningState, IsOpeningOf}
use Rattle.tap_office.specs.Rounds.{Round, AreRounds, released}
use Rattle.office_tests.specs.declared.tests.of_tap_office.TheConstants.{CARDS}
use Rattle.office_tests.proofs.tests.of_tap_office.rounds.next_round.Goals as goal

-- a file has its own digest
own-digest : (text : List ℕ) → HaveOwnDigests (text ∷ []) (text ∷ [])
own-digest text =
    let IsOwn = λ (file other : List ℕ). sha256 file ≡ sha256 other → file ≡ other in
    let AreOwn = λ (file : List ℕ). All (IsOwn file) (text ∷ []) in
    All-cons AreOwn text [] (All-cons (IsOwn text) text [] (λ _. refl) (All-nil (IsOwn text))) (All-nil AreOwn)

module _ (text content : List ℕ) (cards : ℕ) (h : Header) (closed : Book) (next : OpeningState MemoryDisk)
    (legal : Stands closed) (of_header : cards_of closed ≡ h.cards)
    (image : Image h (touches_of (entries_of closed)) content)
    (found : Image next.header (touches_of next.recovered) content)
    (opening : IsOpeningOf next.tables cards 2 next)
    (read : AreReadFrom (text ∷ []) (listed (tables_of closed)))
    (read_again : AreReadFrom (text ∷ []) (listed next.tables)) where
  -- the round that was closed, and the one that it is opened for
  abbrev earlier : Round
  earlier = record {
    tables = tables_of closed;
    found = touches_of (entries_of closed);
    committed = [];
    in_flight = None;
    outcome = content;
  }

  abbrev later : Round
  later = record {
    tables = next.tables;
    found = touches_of next.recovered;
    committed = [];
    in_flight = None;
    outcome = content;
  }

  same_header : h ≡ next.header
  same_header =
      (one_journal h next.header (touches_of (entries_of closed)) (touches_of next.recovered) content image found).0

  again : Image h (touches_of next.recovered) content
  again = subst (λ (k : Header). Image k (touches_of next.recovered) content) (sym same_header) found

  all_released : (touches : List Touch) → Image h touches content → Image h (touches ++ []) content
  all_released touches is = subst (λ (l : List Touch). Image h l content) (sym (append-nil touches)) is

  rounds : AreRounds h (earlier ∷ later ∷ [])
  rounds = (
    content,
    (
      image,
      inl (all_released (touches_of (entries_of closed)) image),
      (again, inl (all_released (touches_of next.recovered) again), tt),
    ),
  )

  same_files : AreOfSameFiles earlier later
  same_files = record {
    first = text;
    files = [];
    others = [];
    read = read;
    others_read = read_again;
    own = own-digest text;
    known = subst (AreKnown (tables_of closed)) (sym (append-nil (touches_of (entries_of closed)))) legal.known;
    others_known = opening.known;
  }

  -- what stands in a book is the book of its touches
  closed_book : history_of (entries_of closed) ≡ book (tables_of closed) h.cards (released earlier)
  closed_book =
      stands-is_book closed legal
      ∙ ap (λ (n : ℕ). book (tables_of closed) n (touches_of (entries_of closed))) of_header
      ∙ ap (book (tables_of closed) h.cards) (sym (append-nil (touches_of (entries_of closed))))

  next_book : book next.tables h.cards later.found ≡ history_of next.recovered
  next_book =
      ap (λ (k : Header). book next.tables k.cards later.found) same_header
      ∙ ap (λ (n : ℕ). book next.tables n later.found) opening.cards_is
      ∙ sym (legal-is_book next.tables cards (history_of next.recovered) opening.legal
      ∙ ap (book next.tables cards) (touches_in-history_of next.recovered))

  -- so by the law each entry stays
  entries-stay : DoSameFilesKeepReplies → (place : ℕ) (judged : Judged)
      → slice_get (history_of (entries_of closed)) place ≡ Some judged
      → slice_get (history_of next.recovered) place ≡ Some judged
  entries-stay law place judged at =
      ap (λ (l : List Judged). slice_get l place) (sym next_book)
      ∙ law h (earlier ∷ later ∷ []) rounds 0 1 earlier later (omega arith) refl refl same_files place judged
      (ap (λ (l : List Judged). slice_get l place) (sym closed_book) ∙ at)

-- what the closed office left is a journal of its book, and so is what a crash left of that
pub returns : goal.returns
returns g c =
    let end = c.in-Ok.ensures.rest in
    let next = c.in-Some.ensures in
    let content = content_of c.in-Ok-crash.left in
    let image = end.left.left c.if-halted.false tt content c.in-Ok-crash.ensures.outcome in
    entries-stay c.args.text.now content CARDS g.N.Named.opened.header c.in-Ok.closed.book c.in-Some.opening end.legal
    end.cards image next.found next.opening (c.requires (tables_of c.in-Ok.closed.book) end.tables) next.file
    c.same_files_keep_replies.ensures.replies
