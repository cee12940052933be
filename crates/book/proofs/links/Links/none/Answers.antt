use mathlib.Core.List.Memᴰ
use Rattle.book.proofs.Linking.{at_none, by_blank, none_legal}
use Rattle.book.proofs.links.Links.none.Goals as goal

pub returns : goal.returns
returns c = record {
  above_is = λ A B _. ((λ h. absurd (at_none 64 A B h)), (λ m. absurd (Memᴰ.not-nil m)));
  by_is = by_blank;
  into_has = λ A f B m. absurd (Memᴰ.not-nil m);
  legal = none_legal;
}
