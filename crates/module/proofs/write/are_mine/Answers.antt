-- `module::write::are_mine` meets its contract.
use Rattle.std.proofs.Common.{◌≡◌, ℕ, zero, suc, ◌+◌, refl, add-zero, arith, rules}
use Rattle.std.proofs.lemmas.Iterator.{YieldsList-from_range}
use Rattle.std.proofs.lemmas.Iterator.Search.{all_from_yields_List}
use Rattle.std.specs.List.{list_all, range_with_len}
use Rattle.model.specs.Map.{seat}
use Rattle.model.specs.Refusals.{is_mine, all_mine}
use Rattle.module.proofs.write.are_mine.Goals as goal

mine_from : (g a b n : ℕ) → list_all (λ k. is_mine (seat g (a + k))) (range_with_len b n) ≡ all_mine g (a + b) n
unfolding all_mine
mine_from g a b zero = refl
mine_from g a b (suc n) = let e : a + (b + 1) ≡ suc (a + b) = omega arith in rw (mine_from g a (b + 1) n, e)

pub returns : goal.returns
returns c =
    let x = c.args in
    let mine = λ (k : ℕ). is_mine (seat x.page.number (x.run.first.0 + k)) in
    let all : c.all.result ≡ list_all mine (range_with_len 0 x.run.many) = all_from_yields_List mine _ _ _ c.all.ensures.ran (YieldsList-from_range 0 x.run.many x.run.many refl (omega arith)) (λ k b q h. (search rules, search rules)) in
    rw all (rw add-zero at (mine_from x.page.number x.run.first.0 0 x.run.many))
