-- The hosts of a tree, made again one after another in the order of their names.
use Rattle.std.proofs.Common.{◌≡◌, ℕ, ◌+◌, ◌≤◌, true, false, ltb, T, List, [], ◌∷◌, ◌++◌, map, length, Some, refl, sym, ap, ◌∙◌, subst, arith}
use Rattle.std.proofs.lemmas.List.{append-nil, length-append}
use Rattle.std.proofs.Common.{append_assoc}
use Rattle.std.proofs.lemmas.Bool.{lt-ltb}
use Rattle.std.specs.Cmp.Lexicographic.{nat_list_cmp_total}
use Rattle.std.specs.Option.{option_and_then, is_some}
use Rattle.std.specs.FinMap as maps
use Rattle.std.specs.FinMap.{FinMap, find, put, is_sorted}
use Rattle.configfs_rows.specs.Nqns.{name_order}
use Rattle.configfs_tree.specs.Table.{mkdir_host}
use Rattle.configfs_tree.specs.Outcome.{first_of, with_settings}
use Rattle.configfs_tree.specs.declared.edits.Folder.TheVariants as folder
use Rattle.configfs_tree.specs.declared.configuration.Configuration.{Configuration}
use Rattle.link_rules.specs.declared.edits.Edit.{Edit}
use Rattle.nvmetcli_json.specs.Edits.{made}
use Rattle.nvmetcli_json.specs.Laws.{edited, all_edited}
use Rattle.nvmetcli_json.specs.Written.{flat, host_written}
use Rattle.nvmetcli_json.proofs.Sorted.{put_last, find_none}

abbrev Names : Type 0
Names = FinMap name_order (Unit {0})

abbrev with_hosts : Configuration → Names → Configuration
with_hosts t hosts = with_settings t (record t.settings { hosts = hosts })

host_made : (t : Configuration) (host : List ℕ) → is_some (maps.get t.settings.hosts host) ≡ false
    → ltb (maps.len t.settings.hosts) 64 ≡ true → edited t (made (folder.Host host)) ≡ Some
    (with_hosts t (maps.insert t.settings.hosts host tt))
unfolding mkdir_host first_of
host_made t host new few = rw (new, few) refl

-- hosts that are made in their order are the hosts that were saved
pub hosts_made : (xs done : List (List ℕ × Unit {0})) (t : Configuration) (rest : List Edit)
    (all : Names) → maps.entries t.settings.hosts ≡ done → maps.entries all ≡ done ++ xs
    → length done + length xs ≤ 64
    → all_edited t (flat host_written (map (λ e. e.0) xs) ++ rest) ≡ all_edited
    (with_hosts t all) rest
unfolding flat all_edited
hosts_made [] done t rest all now is few =
    let same : t.settings.hosts ≡ all = maps.same_entries_map _ _ (now ∙ sym (append-nil done)
    ∙ sym is) in
    ap (λ (m : Names). all_edited (with_hosts t m) rest) same
hosts_made (x ∷ xs) done t rest all now is few =
    let sorted : T (is_sorted name_order (done ++ x ∷ xs)) = subst (λ es. T
    (is_sorted name_order es)) is (maps.entries_sorted all) in
    let none : is_some (maps.get t.settings.hosts x.0) ≡ false = ap is_some
    (maps.get-entries t.settings.hosts x.0 ∙ ap (find name_order x.0) now
    ∙ find_none nat_list_cmp_total done x xs sorted) in
    let count : maps.len t.settings.hosts ≡ length done = maps.len-entries t.settings.hosts
    ∙ ap length now in
    let room : ltb (maps.len t.settings.hosts) 64 ≡ true = lt-ltb _ _ (omega (arith, count, few)) in
    let next : maps.entries (maps.insert t.settings.hosts x.0 tt) ≡ done ++ x
    ∷ [] = maps.entries-insert nat_list_cmp_total t.settings.hosts x.0 tt
    ∙ ap (put name_order x.0 tt) now ∙ put_last nat_list_cmp_total done x xs sorted in
    let more : length (done ++ x ∷ []) ≡ length done + 1 = length-append done (x ∷ []) in
    ap (option_and_then (λ u. all_edited u (flat host_written (map (λ e. e.0) xs)
    ++ rest))) (host_made t x.0 none room)
    ∙ hosts_made xs (done ++ x ∷ []) (with_hosts t (maps.insert t.settings.hosts x.0 tt)) rest all
    next (is ∙ sym (append_assoc done (x ∷ []) xs)) (omega (arith, few, more))
