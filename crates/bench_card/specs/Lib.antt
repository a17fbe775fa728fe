pub mod BenchCard
