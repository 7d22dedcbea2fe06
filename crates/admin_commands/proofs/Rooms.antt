-- The room that data for the host take.
use Rattle.std.proofs.Common.{◌≡◌, ◌≤◌, ℕ, ◌%◌, ◌==◌, not, nat_le, Bool, true, false, cond, List, [], refl, sym, ap, subst, ◌∙◌, arith}
use Rattle.std.proofs.lemmas.Bool.{eqb-true, le-leb}
use Rattle.std.proofs.lemmas.List.{append-nil}
use Rattle.mem_bdev.specs.Texts.{Text, appended}
use Rattle.mem_bdev.specs.declared.limits.TheConstants.{MAX_TRANSFER}
use Rattle.sqe_cqe.specs.declared.sqe.Sqe.{Sqe}
use Rattle.sqe_cqe.specs.declared.codes.TheConstants.{SUCCESS, DATA_SGL_LENGTH_INVALID}
use Rattle.sqe_cqe.specs.declared.way.Direction.{Direction}
use Rattle.sqe_cqe.specs.declared.way.Direction.TheVariants.{ToHost}
use Rattle.sqe_cqe.specs.Sqe.{direction_by, direction_of, fctype_of, host_by, host_len}
use Rattle.sqe_cqe.specs.Answers.{View}
use Rattle.look_pages.specs.declared.walk.TheConstants.{PAGE}
use Rattle.admin_identify.specs.Identify.{identify_status, cns_status}
use Rattle.admin_commands.specs.declared.checks.TheConstants.{GET_LOG_PAGE, IDENTIFY}
use Rattle.admin_commands.specs.Admin.{most_given}

pub none_appended : (to : Text) → appended to [] ≡ to
none_appended to = ap (λ (b : List ℕ). record { bytes = b; room = to.room }) (append-nil to.bytes)

-- ---- an Identify that passes its checks asks for a page
asks_page : (e : Sqe) (b : Bool) (rest : ℕ) → (e.sgl_len == PAGE) ≡ b
    → cond (not b) DATA_SGL_LENGTH_INVALID rest ≡ SUCCESS → e.sgl_len ≡ PAGE
asks_page e true rest is h = eqb-true e.sgl_len PAGE is
asks_page e false rest is h = absurd (omega (arith, h))

to_host : (o f n : ℕ) → direction_by (cond (n == 127) f n % 4) ≡ ToHost → o ≡ n
    → direction_by (cond (o == 127) f o % 4) ≡ ToHost
to_host o f n is e = subst (λ (x : ℕ). direction_by (cond (x == 127) f x % 4) ≡ ToHost) (sym e) is

pub page_room : (v : View) (e : Sqe) → e.opcode ≡ IDENTIFY → identify_status v e ≡ SUCCESS
    → most_given e ≡ PAGE
unfolding identify_status host_len direction_of
page_room v e o h =
    let len = asks_page e (e.sgl_len == PAGE) (cns_status v e) refl h in
    let host : host_len e ≡ PAGE =
    ap (λ (d : Direction). host_by d e.sgl_len) (to_host e.opcode (fctype_of e) IDENTIFY refl o)
    ∙ len in
    ap (λ (n : ℕ). cond (nat_le n MAX_TRANSFER) n 0) host

-- ---- a log read that passes its checks asks for as many bytes as its SGL length
pub log_room : (e : Sqe) → e.opcode ≡ GET_LOG_PAGE → e.sgl_len ≤ MAX_TRANSFER
    → most_given e ≡ e.sgl_len
unfolding host_len direction_of
log_room e o short =
    let host : host_len e ≡ e.sgl_len = ap (λ (d : Direction). host_by d e.sgl_len)
    (to_host e.opcode (fctype_of e) GET_LOG_PAGE refl o) in
    ap (λ (n : ℕ). cond (nat_le n MAX_TRANSFER) n 0) host
    ∙ ap (λ (b : Bool). cond b e.sgl_len 0) (le-leb e.sgl_len MAX_TRANSFER short)
