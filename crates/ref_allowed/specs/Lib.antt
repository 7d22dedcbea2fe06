pub mod HoldTests
