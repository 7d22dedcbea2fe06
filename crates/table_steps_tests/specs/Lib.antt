pub mod WideMeans
